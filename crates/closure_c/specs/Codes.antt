-- The answers of closing as numbers.
use Rattle.std.specs.Prelude.{◌≡◌, List, ℕ, Ok, Err, Result}
use Rattle.closure.specs.Closings.{Closes}
use Rattle.closure.specs.Tickings.{ticks_meaning}
use Rattle.closure.specs.declared.kinds.Ticks.{Ticks}
use Rattle.closure.specs.declared.tables.Unclosed.{Unclosed}
use Rattle.closure.specs.declared.tables.Unclosed.TheVariants.{BadCycle, WrongSize, OutOfRange}

abbrev pub code : Result (Unit {0}) Unclosed → ℕ
code (Ok done) = 0
code (Err (BadCycle p)) = 1
code (Err WrongSize) = 2
code (Err (OutOfRange p)) = 3

-- closing the list l answers by the number r, and leaves the list m
abbrev pub Coded : ℕ → List Ticks → List Ticks → ℕ → Type 0
Coded n l m r = (answer : Result (Unit {0}) Unclosed) × Closes ticks_meaning n l m answer × (r ≡ code answer)
