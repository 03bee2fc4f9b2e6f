use Rattle.std.proofs.Common.{rules}
use Rattle.std.proofs.lemmas.List.{get_or_append_left}
use Rattle.std.proofs.lemmas.Slice.{overwrites}
use Rattle.bookformat.specs.Books.{book_value}
use Rattle.bookformat.proofs.Known.{is_good}
use Rattle.earliest.proofs.Flat.{earliest_is}
use Rattle.earliest.proofs.earliest_dates_if_datable.Goals as goal

pub returns : goal.returns
returns c =
    let b = book_value c.args.path.now.book.now in
    let links = c.args.path.now.links.now in
    record {
      count = c.event_count-count.ensures;
      dates = λ datable. earliest_is b (is_good c.args.path.now.book.now) links c.rise.new.dates _ (search rules) (c.rise.ensures datable) (λ k h. get_or_append_left c.rise.new.dates _ 0 k h);
      rest = search (rules, overwrites);
    }
