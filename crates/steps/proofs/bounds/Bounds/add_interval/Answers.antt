use Rattle.std.proofs.Common.{arith}
use Rattle.std.proofs.lemmas.Int.{ints}
use Rattle.steps.proofs.Filled.{adds_lower, adds_both}
use Rattle.steps.proofs.bounds.Bounds.add_interval.Goals as goal

pub returns-in-Some : goal.returns-in-Some
returns-in-Some c = adds_both c.add_lower.ensures c.in-Some.is (omega (arith, ints)) c.tighten.ensures

pub returns-in_default : goal.returns-in_default
returns-in_default c = adds_lower c.add_lower.ensures c.in_default.is
