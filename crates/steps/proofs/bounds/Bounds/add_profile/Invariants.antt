use Rattle.std.proofs.Common.{ℕ, ◌<◌}
use Rattle.steps.specs.Fillings.{Adds}
use Rattle.steps.specs.Parts.{ProfileKeptFrom, entries_of}
use Rattle.steps.proofs.bounds.Bounds.add_profile.Given as goal

abbrev pub invariant-loop-p : goal.invariant-loop-p
invariant-loop-p l = Adds l.initial.self l.self (λ z. (q : ℕ) → q < l.p → ProfileKeptFrom (entries_of l.profile.entries.now) l.stations q z)
