use Rattle.std.proofs.Common.{arith}
use Rattle.steps.proofs.Filled.{adds_more, adds_all}
use Rattle.steps.proofs.bounds.Bounds.add_order.Goals as goal

pub loop-e-preserved : goal.loop-e-preserved
loop-e-preserved c = adds_more c.loop-e.invariant c.add_order_from.ensures

pub returns : goal.returns
returns c = adds_all (omega arith) c.loop-e.invariant
