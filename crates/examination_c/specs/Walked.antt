-- What a walk through a book in one call answers.
use Rattle.std.specs.Prelude.{◌≡◌, ℕ, ◌+◌, ◌*◌, List, Ok, Err, Result, ◌≢◌}
use Rattle.bookformat.specs.declared.fault.Fault.{Fault}
use Rattle.history.specs.declared.phase.State.{State}
use Rattle.history.specs.Views.{View}
use Rattle.history.specs.Meanings.{Begun, BeginFault, Advanced}

-- the book was taken, and the walk through it has gone on from there
pub record Went (capacity : ℕ) (bytes : List ℕ) (budget steps state : ℕ) : Type 0 where
  pub first : View
  pub last : View
  pub told : State
  pub begun : Begun capacity bytes told first
  pub advanced : Advanced capacity budget first steps state last

abbrev pub WalkMeans : ℕ → List ℕ → ℕ → Result (ℕ × ℕ) Fault → Type 0
WalkMeans capacity bytes budget (Ok a) = Went capacity bytes budget a.0 a.1
WalkMeans capacity bytes budget (Err f) = BeginFault capacity bytes f

-- the state, then 16 bits for the steps
abbrev pub packed : Result (ℕ × ℕ) Fault → ℕ
packed (Ok a) = a.1 * 65536 + a.0
packed (Err f) = 0

-- all is 0 where no book was taken
abbrev pub Told : ℕ → List ℕ → ℕ → ℕ → Type 0
Told capacity bytes budget r = (r ≢ 0) → (steps : ℕ) × (state : ℕ) × (r ≡ state * 65536 + steps) × Went capacity bytes budget steps state
