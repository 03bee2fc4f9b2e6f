use Rattle.std.proofs.Common.{ℕ, ◌<◌}
use Rattle.steps.specs.Fillings.{Adds}
use Rattle.steps.specs.Parts.{BeforeKept}
use Rattle.steps.proofs.bounds.Bounds.add_order_from.Given as goal

abbrev pub invariant-loop-f : goal.invariant-loop-f
invariant-loop-f l = Adds l.initial.self l.self (λ z. (q : ℕ) → q < l.f → BeforeKept l.events l.first l.e q z)
