use Rattle.std.proofs.Common.{ℕ, ◌<◌, length}
use Rattle.bookformat.specs.Books.{book_value}
use Rattle.steps.specs.Fillings.{Adds}
use Rattle.steps.specs.Parts.{DriftsKeptFrom}
use Rattle.steps.proofs.bounds.Bounds.add_drifts.Given as goal

abbrev pub invariant-loop-e : goal.invariant-loop-e
invariant-loop-e l = Adds l.initial.self l.self (λ z. (q : ℕ) → q < l.e → DriftsKeptFrom (book_value l.book) l.full.working (length l.full.stations.items) l.first q z)
