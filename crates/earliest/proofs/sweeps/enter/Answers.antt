use Rattle.std.proofs.Common.{length, sym, subst}
use Rattle.bookformat.specs.Books.{book_value}
use Rattle.bookformat.proofs.Known.{is_good}
use Rattle.earliest.specs.Demands.{Placed}
use Rattle.earliest.proofs.Linked.{small_interval}
use Rattle.earliest.proofs.Swept.{left_placed, entered_placed, entering_met}
use Rattle.earliest.proofs.sweeps.enter.Goals as goal

pub raise_link-changed-requires : goal.raise_link-changed-requires
raise_link-changed-requires c = record {
  small = λ p. small_interval (book_value c.args.path.now.book.now) (is_good c.args.path.now.book.now) _ p c.link.result.now c.link.ensures;
  left = left_placed (book_value c.args.path.now.book.now) c.args.path.now.links.now c.args.position c.args.left.now c.args.entered.now (length c.args.dates.now) c.requires;
  entered = entered_placed (book_value c.args.path.now.book.now) c.args.path.now.links.now c.args.position c.args.left.now c.args.entered.now (length c.args.dates.now) c.requires;
}

pub settle-changed-requires : goal.settle-changed-requires
settle-changed-requires c = subst (Placed (book_value c.args.path.now.book.now) c.args.entered.now) (sym c.raise_link-changed.ensures.long) (entered_placed (book_value c.args.path.now.book.now) c.args.path.now.links.now c.args.position c.args.left.now c.args.entered.now (length c.args.dates.now) c.requires)

pub returns : goal.returns
returns c = entering_met (book_value c.args.path.now.book.now) c.args.path.now.links.now c.args.position c.args.left.now c.args.entered.now (length c.args.dates.now) c.requires c.link.result.now c.link.ensures c.raise_link-changed.ensures c.settle-changed.ensures
