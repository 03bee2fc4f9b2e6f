use Rattle.std.proofs.Common.{ℕ, ◌<◌}
use Rattle.bookformat.specs.Books.{book_value}
use Rattle.steps.specs.Fillings.{Adds}
use Rattle.steps.specs.Parts.{DriftKept}
use Rattle.steps.proofs.bounds.Bounds.add_drifts_from.Given as goal

abbrev pub invariant-loop-f : goal.invariant-loop-f
invariant-loop-f l = Adds l.initial.self l.self (λ z. (q : ℕ) → q < l.f → DriftKept (book_value l.book) l.full.working l.first l.e q z)
