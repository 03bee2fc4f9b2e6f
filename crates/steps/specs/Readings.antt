-- What is read out of a closed table.
use Rattle.std.specs.Prelude.{◌≡◌, ℕ, ◌+◌, ◌<◌, ◌⊎◌, List, length, ℤ, pos, Some, None, Option}
use Rattle.closure.specs.Tickings.{WithinTicks}
use Rattle.fullchart.specs.Finds.{NotBelow, LastOn}
use Rattle.paths.specs.Bounds.{BadCycle}
use Rattle.paths.specs.Tables.{Table, Entry, ShortestWalks}
use Rattle.steps.specs.Parts.{entries_of}

-- between the last events of two stations, where event e stands at the place first + e, the table has a number that can be kept
abbrev pub Readable : Table → ℕ → List ℕ → Type 0
Readable D first events = (p q e f : ℕ) → LastOn events p (Some e) → LastOn events q (Some f) → (w : ℤ) × (D (first + f) (first + e) ≡ Some w) × WithinTicks 10000 w

-- w is that number, from q's last event to p's, or 0 where one of the stations has no event
pub record EntryRead (D : Table) (first : ℕ) (events : List ℕ) (p q : ℕ) (w : ℤ) : Type 0 where
  pub found : (e f : ℕ) → LastOn events p (Some e) → LastOn events q (Some f) → D (first + f) (first + e) ≡ Some w
  pub absent : (NotBelow events p (length events)) ⊎ (NotBelow events q (length events)) → w ≡ pos 0

-- the array holds those numbers for all stations
abbrev pub ProfileRead : Table → ℕ → List ℕ → List ℤ → Type 0
ProfileRead D first events a = (p q : ℕ) → p < 8 → q < 8 → EntryRead D first events p q (entries_of a p q)

-- what closing the table A of n places and reading it answers
abbrev pub ClosedRead : ℕ → Table → ℕ → List ℕ → Option (List ℤ) → Type 0
ClosedRead n A first events None = BadCycle (Entry n A)
ClosedRead n A first events (Some a) = (D : Table) × ShortestWalks n A D × ProfileRead D first events a
