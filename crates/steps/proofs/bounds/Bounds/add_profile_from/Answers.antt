use Rattle.std.proofs.Common.{arith}
use Rattle.steps.proofs.Filled.{adds_more, adds_all}
use Rattle.steps.proofs.bounds.Bounds.add_profile_from.Goals as goal

pub loop-q-preserved : goal.loop-q-preserved
loop-q-preserved c = adds_more c.loop-q.invariant c.add_profile_entry.ensures

pub returns : goal.returns
returns c = adds_all (omega arith) c.loop-q.invariant
