-- What is proved of every walk through a lawful system.
use Rattle.std.specs.Prelude.{◌≡◌, ℕ, suc, ◌+◌, ◌*◌, ◌<◌, ◌≤◌, true, false, ◌↔◌, List, [], ◌∷◌, length, take, Some, None, ◌≢◌, slice_index, slice_index_or}
use Rattle.search.specs.Systems.{System}
use Rattle.search.specs.Rows.{Row, at, class_at, Trail, Pair, Before, Among, Once, FirstWaits, NoneWaits}
use Rattle.search.specs.Walks.{Phase, Idle, Open, Runs, Empty, Spent, IsOpen, Stage, Outcome, Tries, Settles, After, Step, Steps, Advances, Walked}
use Rattle.search.specs.Places.{Found, Continues, Moves}

-- One walk

pub record DeterminedLaw (y : System) : Type 0 where
  -- so many steps with so much room come to one list of rows and one state
  pub walk : (capacity n : ℕ) (v w : Stage y) → Walked y capacity n v → Walked y capacity n w → v ≡ w
  -- a budget makes one number of steps, and comes to one list of rows and one state
  pub advance : (capacity budget m n : ℕ) (z v w : Stage y) → Advances y capacity budget z m v → Advances y capacity budget z n w → (m ≡ n) × (v ≡ w)

-- budgets continue the walk, and are used up where it is still open
pub record BudgetLaw (y : System) : Type 0 where
  pub walked : (capacity n budget m : ℕ) (v w : Stage y) → Walked y capacity n v → Advances y capacity budget v m w → Walked y capacity (n + m) w
  pub used : (capacity budget m : ℕ) (v w : Stage y) → Advances y capacity budget v m w → IsOpen w.phase → m ≡ budget

-- a walk is never stuck
pub record ProgressLaw (y : System) : Type 0 where
  pub begin : (capacity : ℕ) → 0 < capacity → (z : Stage y) × Walked y capacity 0 z
  pub step : (capacity n : ℕ) (z : Stage y) → Walked y capacity n z → IsOpen z.phase → (w : Stage y) × Step y capacity z w
  pub advance : (capacity n budget : ℕ) (z : Stage y) → Walked y capacity n z → (m : ℕ) × (w : Stage y) × Advances y capacity budget z m w

-- The rows

pub record RowsOf (y : System) (capacity : ℕ) (rows : List (Row y)) : Type 0 where
  pub few : length rows ≤ capacity
  -- no two rows have one class
  pub apart : (a b : ℕ) → a < b → b < length rows → class_at rows a ≢ class_at rows b
  -- row 0 is the path without links
  pub first : 0 < length rows → y.In [] (class_at rows 0) × ((at rows 0).origin ≡ None)
  -- each other came from an older row by a link that leads to it
  pub came : (k : ℕ) → 0 < k → k < length rows → (p : ℕ) × (l : ℕ) × ((at rows k).origin ≡ Some (record { row = p; link = l })) × (p < k) × y.leads (class_at rows p) l (class_at rows k)
  -- each row has its chain, and that is a path in the row's class
  pub trail : (k : ℕ) → k < length rows → (path : List ℕ) × Trail y rows k path
  pub in_class : (k : ℕ) (path : List ℕ) → Trail y rows k path → y.In path (class_at rows k)
  -- later rows have paths that are no shorter
  pub longer : (a b : ℕ) (path other : List ℕ) → a ≤ b → Trail y rows a path → Trail y rows b other → length path ≤ length other

abbrev pub RowsLaw : System → Type 0
RowsLaw y = (capacity n : ℕ) (z : Stage y) → Walked y capacity n z → RowsOf y capacity z.rows

-- the chain of a row, in whatever rows, link by link from its end
pub record TrailLaw (y : System) : Type 0 where
  pub one : (rows : List (Row y)) (k : ℕ) (path other : List ℕ) → Trail y rows k path → Trail y rows k other → path ≡ other
  pub below : (rows : List (Row y)) (k : ℕ) (path : List ℕ) → Trail y rows k path → (k < length rows) × (length path ≤ k)
  pub top : (rows : List (Row y)) (k : ℕ) (path : List ℕ) → Trail y rows k path → length path ≡ 0 → (k ≡ 0) × ((at rows k).origin ≡ None)
  pub up : (rows : List (Row y)) (k n : ℕ) (path : List ℕ) → Trail y rows k path → length path ≡ suc n → (p : ℕ) × ((at rows k).origin ≡ Some (record { row = p; link = slice_index path n })) × (p < k) × Trail y rows p (take n path)
  -- each beginning of the path is the chain of a row
  pub part : (rows : List (Row y)) (k n : ℕ) (path : List ℕ) → Trail y rows k path → n ≤ length path → (a : ℕ) × (a ≤ k) × Trail y rows a (take n path)

-- The pairs

pub record PairsOf (y : System) (capacity n : ℕ) (z : Stage y) : Type 0 where
  -- a step for each pair tried, and none twice
  pub pairs : (p l : ℕ) → Among z.tried p l → Pair y z.rows p l
  pub once : Once z.tried
  pub count : length z.tried ≡ n
  pub most : n ≤ length z.rows * y.links
  -- so the walk is not open after capacity × links steps
  pub unfinished : IsOpen z.phase → n < capacity * y.links

abbrev pub PairsLaw : System → Type 0
PairsLaw y = (capacity n : ℕ) (z : Stage y) → Walked y capacity n z → PairsOf y capacity n z

-- The states

pub record PhaseOf (y : System) (z : Stage y) : Type 0 where
  pub begun : z.phase ≡ Idle → ⊥
  pub waits : (p l : ℕ) → z.phase ≡ Open p l → FirstWaits y z.rows z.tried p l
  pub none_waits : z.phase ≡ Empty → NoneWaits y z.rows z.tried
  -- a final row is the one where the walk runs
  pub final : (k : ℕ) → k < length z.rows → y.final (class_at z.rows k) ≡ true → z.phase ≡ Runs k

abbrev pub PhaseLaw : System → Type 0
PhaseLaw y = (capacity n : ℕ) (z : Stage y) → Walked y capacity n z → PhaseOf y z

-- empty: no path of any length is final
abbrev pub EmptyLaw : System → Type 0
EmptyLaw y = (capacity n : ℕ) (z : Stage y) → Walked y capacity n z → z.phase ≡ Empty → (path : List ℕ) (s : y.Class) → y.In path s → y.final s ≡ false

-- runs: the chain of the row is a final path, and no final path is shorter
pub record RunsAt (y : System) (rows : List (Row y)) (k : ℕ) : Type 0 where
  pub path : List ℕ
  pub held : k < length rows
  pub trail : Trail y rows k path
  pub in_class : y.In path (class_at rows k)
  pub final : y.final (class_at rows k) ≡ true
  pub shortest : (other : List ℕ) (s : y.Class) → y.In other s → y.final s ≡ true → length path ≤ length other

abbrev pub RunsLaw : System → Type 0
RunsLaw y = (capacity n k : ℕ) (z : Stage y) → Walked y capacity n z → z.phase ≡ Runs k → RunsAt y z.rows k

-- paths in classes, no two in one class
pub record Different (y : System) (paths : List (List ℕ)) : Type 0 where
  pub in_class : (k : ℕ) → k < length paths → (s : y.Class) × y.In (slice_index_or paths k []) s
  pub apart : (a b : ℕ) → a < b → b < length paths → (s : y.Class) → y.In (slice_index_or paths a []) s → y.In (slice_index_or paths b []) s → ⊥

-- spent: there are more classes of paths than rows
pub record SpentLaw (y : System) : Type 0 where
  pub crowd : (capacity n : ℕ) (z : Stage y) → Walked y capacity n z → z.phase ≡ Spent → (paths : List (List ℕ)) × Different y paths × (length paths ≡ suc capacity)
  pub enough : (capacity n : ℕ) (z : Stage y) → Walked y capacity n z → ((paths : List (List ℕ)) → Different y paths → length paths ≤ capacity) → z.phase ≢ Spent

-- The walk by places

pub record PlaceLaw (y : System) : Type 0 where
  -- the pairs tried are those before the next one
  pub tried : (capacity n p l : ℕ) (z : Stage y) → Walked y capacity n z → z.phase ≡ Open p l → (q m : ℕ) → Pair y z.rows q m → Among z.tried q m ↔ Before q m p l
  -- so the next one alone tells how the walk goes on
  pub begins : (rows : List (Row y)) (f : Phase) → Found y rows 0 0 f ↔ Settles y rows [] f
  pub continues : (capacity n p l : ℕ) (z : Stage y) → Walked y capacity n z → z.phase ≡ Open p l → (o : Outcome) (rows : List (Row y)) → Tries y capacity z.rows p l o rows → (f : Phase) → Continues y rows p l o f ↔ After y rows ((p, l) ∷ z.tried) o f
  -- and the steps by places are those of the walk
  pub steps : (capacity n m : ℕ) (z : Stage y) (rows : List (Row y)) (f : Phase) → Walked y capacity n z → Moves y capacity z.rows z.phase m rows f → (tried : List (ℕ × ℕ)) × Steps y capacity z m (record { rows = rows; tried = tried; phase = f })
  pub moves : (capacity n m : ℕ) (z w : Stage y) → Walked y capacity n z → Steps y capacity z m w → Moves y capacity z.rows z.phase m w.rows w.phase
