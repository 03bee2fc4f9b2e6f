use Rattle.std.proofs.Common.{arith}
use Rattle.steps.proofs.Filled.{adds_more, adds_all}
use Rattle.steps.proofs.bounds.Bounds.add_profile.Goals as goal

pub loop-p-preserved : goal.loop-p-preserved
loop-p-preserved c = adds_more c.loop-p.invariant c.add_profile_from.ensures

pub returns : goal.returns
returns c = adds_all (omega arith) c.loop-p.invariant
