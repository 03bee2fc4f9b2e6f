-- What the tests passed or failed say about good books.
use Rattle.std.proofs.Common.{◌≡◌, ℕ, List, Some, None, Ok, Err, Result, sym, ap, ◌∙◌, subst, arith}
use Rattle.bookformat.specs.declared.fault.Fault.{Fault}
use Rattle.bookformat.specs.declared.book.Book.{Book}
use Rattle.bookformat.specs.Values.{BookValue}
use Rattle.bookformat.specs.Books.{book_value}
use Rattle.bookformat.specs.Encoding.{encode}
use Rattle.bookformat.specs.Rules.{GoodBook}
use Rattle.bookformat.specs.Layout.{book_at}
use Rattle.bookformat.specs.Laws.{Octets}
use Rattle.bookformat.specs.Reading.{reading, fault}
use Rattle.bookformat.proofs.Taken.{taken_good}
use Rattle.bookformat.proofs.GoodTaken.{good_taken, good_read}
use Rattle.bookrecords.specs.Answers.{Tested}
use Rattle.chartbook.specs.Reads.{Taken, Refused, Reads}

taken : (b : List ℕ) (v : BookValue) → fault b ≡ None → v ≡ book_at b → Octets b → Taken b v
taken b v passed is octets =
    let good = taken_good b octets passed in
    record {
      bytes_are = ap encode is ∙ good.0;
      good = subst GoodBook (sym is) good.1;
      only = λ other g e. sym (good_read other g) ∙ ap book_at e ∙ sym is;
    }

refused : (b : List ℕ) (f : Fault) → fault b ≡ Some f → Refused b f
refused b f first = record {
  first = first;
  not_good = λ v good e. let passed = good_taken v good in let same = ap fault e in let z : ◌≡◌ {A = ℕ} 0 1 = cc in omega arith;
}

pub reads : (b : List ℕ) (r : Result Book Fault) → Tested r (reading b) (λ v. (book_value v ≡ book_at b) × Octets b) → Reads b r
reads b (Ok book) (passed, (is, octets)) = taken b (book_value book) passed is octets
reads b (Err f) first = refused b f first
