use Rattle.std.proofs.Common.{arith}
use Rattle.bookformat.specs.Books.{book_value}
use Rattle.earliest.proofs.Risen.{one_more, all_met, drift_met}
use Rattle.earliest.proofs.charts.raise_near.Goals as goal

pub loop-f-preserved : goal.loop-f-preserved
loop-f-preserved c =
    one_more _ c.loop-f.f c.loop-f.invariant
    (drift_met (book_value c.args.book.now) c.args.full.now.working c.args.first c.args.e c.loop-f.f c.least_near-date.result (omega (arith, c.requires.0, c.requires.1, c.loop-f.auto.dates)) c.least_near-date.ensures c.raise-changed.ensures)

pub returns : goal.returns
returns c = all_met _ c.loop-f.f _ (omega arith) (omega arith) c.loop-f.invariant
