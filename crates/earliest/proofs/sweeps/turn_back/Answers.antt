use Rattle.std.proofs.Common.{length, sym, subst}
use Rattle.bookformat.specs.Books.{book_value}
use Rattle.bookformat.proofs.Known.{is_good}
use Rattle.earliest.specs.Demands.{Placed}
use Rattle.earliest.proofs.Linked.{small_interval}
use Rattle.earliest.proofs.Swept.{left_placed, entered_placed, leaving_met, leaving_kept}
use Rattle.earliest.proofs.sweeps.turn_back.Goals as goal

pub raise_link-requires : goal.raise_link-requires
raise_link-requires c = record {
  small = λ p. small_interval (book_value c.args.path.now.book.now) (is_good c.args.path.now.book.now) _ p c.link.result.now c.link.ensures;
  left = left_placed (book_value c.args.path.now.book.now) c.args.path.now.links.now c.args.position c.args.left.now c.args.entered.now (length c.args.dates.now) c.requires;
  entered = entered_placed (book_value c.args.path.now.book.now) c.args.path.now.links.now c.args.position c.args.left.now c.args.entered.now (length c.args.dates.now) c.requires;
}

pub settle-requires : goal.settle-requires
settle-requires c = subst (Placed (book_value c.args.path.now.book.now) c.args.left.now) (sym c.raise_link.ensures.long) (left_placed (book_value c.args.path.now.book.now) c.args.path.now.links.now c.args.position c.args.left.now c.args.entered.now (length c.args.dates.now) c.requires)

pub returns-then-not-raise_link : goal.returns-then-not-raise_link
returns-then-not-raise_link c = leaving_kept (book_value c.args.path.now.book.now) c.args.path.now.links.now c.args.position c.args.left.now c.args.entered.now (length c.args.dates.now) c.requires c.link.result.now c.link.ensures c.if-not-raise_link.ensures

pub returns : goal.returns
returns c = leaving_met (book_value c.args.path.now.book.now) c.args.path.now.links.now c.args.position c.args.left.now c.args.entered.now (length c.args.dates.now) c.requires c.link.result.now c.link.ensures c.if-not-raise_link.ensures c.settle.ensures
