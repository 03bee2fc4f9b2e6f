use Rattle.std.proofs.Common.{◌+◌, arith, below_more}
use Rattle.std.proofs.lemmas.Bool.Decides.{not_from_Decides}
use Rattle.bookformat.specs.Books.{book_value}
use Rattle.paths.specs.Listing.{written}
use Rattle.judge.proofs.Positions.{all_kept}
use Rattle.judge.proofs.dated.DatedPath.judge.Goals as goal

pub returns-then-not-keeps_own : goal.returns-then-not-keeps_own
returns-then-not-keeps_own c =
    let broken = not_from_Decides c.keeps_own.result c.keeps_own.ensures c.if-not-keeps_own.true in
    (record { on_path = omega arith; breaks = λ p. broken p.chart; smallest = λ j h. absurd (omega arith) }, λ d. broken (d.charts 0 (omega arith)))

pub loop-position-preserved : goal.loop-position-preserved
loop-position-preserved c = (
  c.stop_after-next.ensures,
  below_more _ (c.loop-position.position + 1) c.loop-position.invariant.1 (c.keeps_next.ensures.0 c.if-not-keeps_next.false),
)

pub returns : goal.returns
returns c =
    let path = c.args.self.now.path in
    let b = book_value path.book.now in
    all_kept b path.links.now (written b path.links.now c.args.self.now.dates.now) (c.loop-position.position + 1) (omega arith) c.loop-position.invariant.1
