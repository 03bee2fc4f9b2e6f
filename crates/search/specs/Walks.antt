-- The walk: how it begins, and what each step does.
use Rattle.std.specs.Prelude.{◌≡◌, ℕ, suc, ◌<◌, ◌≤◌, true, false, ◌⊎◌, List, [], ◌∷◌, ◌++◌, length}
use Rattle.search.specs.Systems.{System, Goes}
use Rattle.search.specs.Rows.{Row, class_at, first_row, led_row, HeldAt, Absent, FirstWaits, NoneWaits}

-- The state of a walk. Open has the pair that is tried next, Runs the final row
pub data Phase : Type 0 where
  Idle : Phase
  Open : ℕ → ℕ → Phase
  Runs : ℕ → Phase
  Empty : Phase
  Spent : Phase

-- the number of a state
abbrev pub code : Phase → ℕ
code Idle = 0
code (Open p l) = 1
code (Runs k) = 2
code Empty = 3
code Spent = 4

abbrev pub IsOpen : Phase → Type 0
IsOpen f = (p : ℕ) × (l : ℕ) × (f ≡ Open p l)

-- What a walk has come to: its rows, the pairs tried, the latest first, and its state
pub record Stage (y : System) : Type 0 where
  pub rows : List (Row y)
  pub tried : List (ℕ × ℕ)
  pub phase : Phase

-- What a step meets: no path goes on so, or a row with that class is held, or it is new, or it finds no room. Known and New have the row's place
pub data Outcome : Type 0 where
  Barred : Outcome
  Known : ℕ → Outcome
  New : ℕ → Outcome
  Full : Outcome

-- Row p and link l are tried: the rows before, what is met, and the rows after it
abbrev pub Tries : (y : System) → ℕ → List (Row y) → ℕ → ℕ → Outcome → List (Row y) → Type 0
Tries y capacity rows p l Barred after = (Goes y (class_at rows p) l → ⊥) × (after ≡ rows)
Tries y capacity rows p l (Known k) after = (t : y.Class) × y.leads (class_at rows p) l t × HeldAt rows t k × (after ≡ rows)
Tries y capacity rows p l (New k) after =
    (t : y.Class) × y.leads (class_at rows p) l t × Absent rows t × (length rows < capacity) × (k ≡ length rows) × (after ≡ rows ++ led_row y p l t ∷ [])
Tries y capacity rows p l Full after = (t : y.Class) × y.leads (class_at rows p) l t × Absent rows t × (capacity ≤ length rows) × (after ≡ rows)

-- open if a pair waits, else empty
abbrev pub Settles : (y : System) → List (Row y) → List (ℕ × ℕ) → Phase → Type 0
Settles y rows tried Idle = ⊥
Settles y rows tried (Open p l) = FirstWaits y rows tried p l
Settles y rows tried (Runs k) = ⊥
Settles y rows tried Empty = NoneWaits y rows tried
Settles y rows tried Spent = ⊥

-- row k is new: if it is final, the walk runs there
abbrev pub Enters : (y : System) → List (Row y) → List (ℕ × ℕ) → ℕ → Phase → Type 0
Enters y rows tried k f = (y.final (class_at rows k) ≡ true → f ≡ Runs k) × (y.final (class_at rows k) ≡ false → Settles y rows tried f)

-- the state after what was met, over the rows and the pairs tried by then
abbrev pub After : (y : System) → List (Row y) → List (ℕ × ℕ) → Outcome → Phase → Type 0
After y rows tried Barred f = Settles y rows tried f
After y rows tried (Known k) f = Settles y rows tried f
After y rows tried (New k) f = Enters y rows tried k f
After y rows tried Full f = f ≡ Spent

-- the path without links is in no class: the walk is empty, without rows
pub record BeginsNowhere (y : System) (z : Stage y) : Type 0 where
  pub none : (s : y.Class) → y.In [] s → ⊥
  pub rows : z.rows ≡ []
  pub tried : z.tried ≡ []
  pub phase : z.phase ≡ Empty

-- it is in the class s, which is row 0
pub record BeginsAt (y : System) (s : y.Class) (z : Stage y) : Type 0 where
  pub starts : y.In [] s
  pub rows : z.rows ≡ first_row y s ∷ []
  pub tried : z.tried ≡ []
  pub phase : Enters y z.rows [] 0 z.phase

abbrev pub Begins : (y : System) → Stage y → Type 0
Begins y z = BeginsNowhere y z ⊎ ((s : y.Class) × BeginsAt y s z)

-- A step is made while open, and tries the first waiting pair
pub record Step (y : System) (capacity : ℕ) (v w : Stage y) : Type 0 where
  pub place : ℕ
  pub link : ℕ
  pub outcome : Outcome
  pub is_open : v.phase ≡ Open place link
  pub first : FirstWaits y v.rows v.tried place link
  pub tries : Tries y capacity v.rows place link outcome w.rows
  pub tried : w.tried ≡ (place, link) ∷ v.tried
  pub after : After y w.rows w.tried outcome w.phase

-- so many steps
pub data Steps (y : System) (capacity : ℕ) (from : Stage y) : ℕ → Stage y → Type 0 where
  none : {n : ℕ} {z : Stage y} → n ≡ 0 → z ≡ from → Steps y capacity from n z
  more : {m n : ℕ} {v w : Stage y} → Steps y capacity from m v → Step y capacity v w → n ≡ suc m → Steps y capacity from n w

-- Steps are made while open and within the budget
pub record Advances (y : System) (capacity budget : ℕ) (from : Stage y) (steps : ℕ) (z : Stage y) : Type 0 where
  pub made : Steps y capacity from steps z
  pub within : steps ≤ budget
  pub stopped : steps < budget → IsOpen z.phase → ⊥

-- what the walk with so much room has come to after so many steps
pub record Walked (y : System) (capacity steps : ℕ) (z : Stage y) : Type 0 where
  pub start : Stage y
  pub room : 0 < capacity
  pub begins : Begins y start
  pub made : Steps y capacity start steps z
