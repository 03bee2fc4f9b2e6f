use Rattle.std.proofs.Common.{ℕ, ◌<◌}
use Rattle.steps.specs.Fillings.{Adds}
use Rattle.steps.specs.Parts.{OrderKeptFrom}
use Rattle.steps.proofs.bounds.Bounds.add_order.Given as goal

abbrev pub invariant-loop-e : goal.invariant-loop-e
invariant-loop-e l = Adds l.initial.self l.self (λ z. (q : ℕ) → q < l.e → OrderKeptFrom l.events l.first q z)
