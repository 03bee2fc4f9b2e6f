-- The rows of a walk, and the pairs of a row and a link that wait.
use Rattle.std.specs.Prelude.{◌≡◌, ℕ, ◌<◌, true, ◌⊎◌, List, [], ◌∷◌, ◌++◌, length, Some, None, Option, slice_index_or}
use Rattle.search.specs.Systems.{System}

-- the place of the row that a row came from, and the link that led on from there
pub record Origin : Type 0 where
  pub row : ℕ
  pub link : ℕ

-- a row; row 0 has no origin
pub record Row (y : System) : Type 0 where
  pub class : y.Class
  pub origin : Option Origin

abbrev pub at : {y : System} → List (Row y) → ℕ → Row y
at {y} rows k = slice_index_or rows k (record { class = y.blank; origin = None })

abbrev pub class_at : {y : System} → List (Row y) → ℕ → y.Class
class_at rows k = (at rows k).class

-- the row of the path without links, and the row to which link l leads from row p
abbrev pub first_row : (y : System) → y.Class → Row y
first_row y s = record { class = s; origin = None }

abbrev pub led_row : (y : System) → ℕ → ℕ → y.Class → Row y
led_row y p l t = record { class = t; origin = Some (record { row = p; link = l }) }

-- Whether a row is held goes by its class alone. Row k has the class
abbrev pub HeldAt : {y : System} → List (Row y) → y.Class → ℕ → Type 0
HeldAt rows s k = (k < length rows) × (class_at rows k ≡ s)

abbrev pub Absent : {y : System} → List (Row y) → y.Class → Type 0
Absent rows s = (k : ℕ) → HeldAt rows s k → ⊥

-- The chain of origins of row k, and the links along it from row 0 on
pub data Trail (y : System) (rows : List (Row y)) : ℕ → List ℕ → Type 0 where
  root : {k : ℕ} {path : List ℕ} → k ≡ 0 → 0 < length rows → (at rows 0).origin ≡ None → path ≡ [] → Trail y rows k path
  under : {k : ℕ} {path : List ℕ} (p l : ℕ) (before : List ℕ) → k < length rows → (at rows k).origin ≡ Some (record { row = p; link = l }) → p < k → Trail y rows p before → path ≡ before ++ l ∷ [] → Trail y rows k path

-- row p and link l are a pair if the link begins where the row's paths end
abbrev pub Pair : (y : System) → List (Row y) → ℕ → ℕ → Type 0
Pair y rows p l = (p < length rows) × (l < y.links) × (y.begins (class_at rows p) l ≡ true)

-- pairs go by row, then by link
abbrev pub Before : ℕ → ℕ → ℕ → ℕ → Type 0
Before p l q m = (p < q) ⊎ ((p ≡ q) × (l < m))

-- the pair is in the list
abbrev pub Among : List (ℕ × ℕ) → ℕ → ℕ → Type 0
Among [] p l = ⊥
Among (x ∷ xs) p l = ((x.0 ≡ p) × (x.1 ≡ l)) ⊎ Among xs p l

-- no pair is in the list twice
abbrev pub Once : List (ℕ × ℕ) → Type 0
Once [] = Unit {0}
Once (x ∷ xs) = (Among xs x.0 x.1 → ⊥) × Once xs

-- a pair waits until tried
abbrev pub Waits : (y : System) → List (Row y) → List (ℕ × ℕ) → ℕ → ℕ → Type 0
Waits y rows tried p l = Pair y rows p l × (Among tried p l → ⊥)

abbrev pub FirstWaits : (y : System) → List (Row y) → List (ℕ × ℕ) → ℕ → ℕ → Type 0
FirstWaits y rows tried p l = Waits y rows tried p l × ((q m : ℕ) → Waits y rows tried q m → Before q m p l → ⊥)

abbrev pub NoneWaits : (y : System) → List (Row y) → List (ℕ × ℕ) → Type 0
NoneWaits y rows tried = (p l : ℕ) → Waits y rows tried p l → ⊥
