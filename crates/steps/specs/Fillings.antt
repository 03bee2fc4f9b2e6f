-- What is added to bounds between places.
use Rattle.std.specs.Prelude.{◌≡◌, ℕ, ◌↔◌, ℤ, ◌≤ℤ◌}
use Rattle.paths.specs.Profiles.{difference}
use Rattle.paths.specs.Bounds.{Keeps}
use Rattle.paths.specs.Tables.{Table, Entry}
use Rattle.steps.specs.declared.bounds.Bounds.{Bounds}
use Rattle.steps.specs.Tables.{table_of}

-- how many places there are
abbrev pub places : Bounds → ℕ
places s = s.table.places

-- the table of the bounds
abbrev pub table : Bounds → Table
table s = table_of (places s) s.table.weights.now

-- the dates z keep the bounds
abbrev pub KeepsBounds : Bounds → (ℕ → ℕ) → Type 0
KeepsBounds s z = Keeps (Entry (places s) (table s)) z

-- they ask nothing of dates
pub record Blank (s : Bounds) : Type 0 where
  pub kept : (z : ℕ → ℕ) → KeepsBounds s z

-- the bounds s have become t: the dates that keep t are those that keep s and of which R holds
pub record Adds (s t : Bounds) (R : (ℕ → ℕ) → Type 0) : Type 0 where
  pub places : places t ≡ places s
  pub exact : (z : ℕ → ℕ) → KeepsBounds t z ↔ (KeepsBounds s z × R z)

-- the date of one place is at most so many ticks after that of another
abbrev pub AtMost : ℕ → ℕ → ℤ → (ℕ → ℕ) → Type 0
AtMost from to w z = difference (z to) (z from) ≤ℤ w
