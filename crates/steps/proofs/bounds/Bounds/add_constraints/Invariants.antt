use Rattle.std.proofs.Common.{ℕ, ◌<◌}
use Rattle.steps.specs.Fillings.{Adds}
use Rattle.steps.specs.Parts.{ConstraintKept}
use Rattle.steps.proofs.bounds.Bounds.add_constraints.Given as goal

abbrev pub invariant-loop-c : goal.invariant-loop-c
invariant-loop-c l = Adds l.initial.self l.self (λ z. (q : ℕ) → q < l.c-index → ConstraintKept l.constraints l.first q z)
