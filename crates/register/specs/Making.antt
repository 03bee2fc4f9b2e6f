-- What making a register answers.
use Rattle.std.specs.Prelude.{◌≡◌, ℕ, ◌<◌, ◌≤◌, List, [], Ok, Err, Result}
use Rattle.register.specs.Meaning.{most_rows}
use Rattle.register.specs.declared.row.Row.{Row}
use Rattle.register.specs.declared.interface.Unmade.{Unmade}
use Rattle.register.specs.declared.interface.Unmade.TheVariants.{TooManyRows, NoMemory}

-- Over the rows and the capacity of a register R: one that is made is empty and has the capacity asked for. Too many rows are
-- refused exactly where that is above the limit, and what else fails is want of memory.
abbrev pub Makes : {R : Type 0} → (R → List Row) → (R → ℕ) → ℕ → Result R Unmade → Type 0
Makes rows capacity asked (Ok r) = (rows r ≡ []) × (capacity r ≡ asked) × (asked ≤ most_rows)
Makes rows capacity asked (Err TooManyRows) = most_rows < asked
Makes rows capacity asked (Err NoMemory) = asked ≤ most_rows
