use Rattle.std.proofs.Common.{ℕ, ◌<◌}
use Rattle.steps.specs.Fillings.{Adds, AtMost}
use Rattle.steps.specs.Parts.{entries_of}
use Rattle.steps.proofs.bounds.Bounds.add_profile_from.Given as goal

abbrev pub invariant-loop-q : goal.invariant-loop-q
invariant-loop-q l = Adds l.initial.self l.self (λ z. (q : ℕ) → q < l.q → AtMost q l.p (entries_of l.profile.entries.now l.p q) z)
