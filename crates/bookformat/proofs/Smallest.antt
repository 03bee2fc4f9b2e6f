-- The smallest book is good.
use Rattle.std.proofs.Common.{◌≡◌, List, [], ◌∷◌, map, None, sym, refl, subst, subst₂}
use Rattle.bookformat.specs.declared.value.Chart.{Chart}
use Rattle.bookformat.specs.declared.value.Link.{Link}
use Rattle.bookformat.specs.Values.{chart_value, value_of}
use Rattle.bookformat.specs.Rules.{GoodBook}
use Rattle.bookformat.specs.Encoding.{encode}
use Rattle.bookformat.specs.Layout.{book_at}
use Rattle.bookformat.specs.Reading.{fault}
use Rattle.bookformat.specs.Smallest.{smallest_chart, smallest_book}
use Rattle.bookformat.proofs.Books.{book_passes}
use Rattle.bookformat.proofs.Taken.{good_book}

passes : fault (encode smallest_book) ≡ None
passes = refl

says : book_at (encode smallest_book) ≡ smallest_book
says = refl

smallest_good : GoodBook smallest_book
smallest_good = subst GoodBook says (good_book (encode smallest_book) (book_passes (encode smallest_book) passes))

pub smallest_is : (charts : List Chart) (links : List Link) → map chart_value charts ≡ smallest_chart ∷ [] → links ≡ [] → ∥ GoodBook (value_of 2 0 0 0 charts links) ∥₁
smallest_is charts links c l = ∣ subst₂ (λ cs ls. GoodBook (record { stations = 2; first = 0; near = 0; far = 0; charts = cs; links = ls })) (sym c) (sym l) smallest_good ∣₁
