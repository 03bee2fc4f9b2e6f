-- The walk by places: in place of the pairs tried, the pair to go on from.
use Rattle.std.specs.Prelude.{◌≡◌, ℕ, suc, true, false, List}
use Rattle.search.specs.Systems.{System}
use Rattle.search.specs.Rows.{Row, class_at, Pair, Before}
use Rattle.search.specs.Walks.{Phase, Idle, Open, Runs, Empty, Spent, Outcome, Barred, Known, New, Full, Tries}

-- open at the first pair from row p and link l on, or empty if there is none
abbrev pub Found : (y : System) → List (Row y) → ℕ → ℕ → Phase → Type 0
Found y rows p l Idle = ⊥
Found y rows p l (Open q m) = Pair y rows q m × (Before q m p l → ⊥) × ((i j : ℕ) → Pair y rows i j → Before i j q m → Before i j p l)
Found y rows p l (Runs k) = ⊥
Found y rows p l Empty = (i j : ℕ) → Pair y rows i j → Before i j p l
Found y rows p l Spent = ⊥

-- the state after row p and link l were tried and this was met, over the rows by then
abbrev pub Continues : (y : System) → List (Row y) → ℕ → ℕ → Outcome → Phase → Type 0
Continues y rows p l Barred f = Found y rows p (suc l) f
Continues y rows p l (Known k) f = Found y rows p (suc l) f
Continues y rows p l (New k) f = (y.final (class_at rows k) ≡ true → f ≡ Runs k) × (y.final (class_at rows k) ≡ false → Found y rows p (suc l) f)
Continues y rows p l Full f = f ≡ Spent

-- so many steps from these rows and this state, whatever they are
pub data Moves (y : System) (capacity : ℕ) (from : List (Row y)) (start : Phase) : ℕ → List (Row y) → Phase → Type 0 where
  stays : {n : ℕ} {rows : List (Row y)} {f : Phase} → n ≡ 0 → rows ≡ from → f ≡ start → Moves y capacity from start n rows f
  moves : {m n : ℕ} {rows after : List (Row y)} {f g : Phase} (p l : ℕ) (o : Outcome) → Moves y capacity from start m rows f → f ≡ Open p l → Tries y capacity rows p l o after → Continues y after p l o g → n ≡ suc m → Moves y capacity from start n after g
