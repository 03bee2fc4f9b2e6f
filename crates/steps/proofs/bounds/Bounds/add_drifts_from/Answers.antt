use Rattle.std.proofs.Common.{arith}
use Rattle.bookformat.specs.Books.{book_value}
use Rattle.steps.proofs.Filled.{adds_more, adds_all}
use Rattle.steps.proofs.Entered.{drift_entered}
use Rattle.steps.proofs.bounds.Bounds.add_drifts_from.Goals as goal

pub loop-f-preserved : goal.loop-f-preserved
loop-f-preserved c = adds_more c.loop-f.invariant (drift_entered (book_value c.args.book.now) c.args.full.now.working c.args.first c.args.e c.loop-f.f c.add_drift.ensures)

pub returns : goal.returns
returns c = adds_all (omega arith) c.loop-f.invariant
