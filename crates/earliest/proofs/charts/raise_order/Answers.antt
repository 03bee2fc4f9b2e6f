use Rattle.std.proofs.Common.{arith}
use Rattle.earliest.proofs.Risen.{one_more, all_met}
use Rattle.earliest.proofs.charts.raise_order.Goals as goal

pub loop-e-preserved : goal.loop-e-preserved
loop-e-preserved c = one_more _ c.loop-e.e c.loop-e.invariant c.raise_later-changed.ensures

pub returns : goal.returns
returns c = all_met _ c.loop-e.e _ (omega arith) (omega arith) c.loop-e.invariant
