use Rattle.std.proofs.Common.{arith}
use Rattle.steps.proofs.Filled.{adds_more, adds_all}
use Rattle.steps.proofs.bounds.Bounds.add_order_from.Goals as goal

pub loop-f-preserved : goal.loop-f-preserved
loop-f-preserved c = adds_more c.loop-f.invariant c.add_before.ensures

pub returns : goal.returns
returns c = adds_all (omega arith) c.loop-f.invariant
