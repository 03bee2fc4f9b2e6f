-- What closing a list of weights answers, and what it makes of the list.
use Rattle.std.specs.Prelude.{◌≡◌, ℕ, ◌+◌, ◌*◌, ◌/◌, ◌%◌, ◌<◌, ◌≤◌, List, map, length, slice_index_or, Ok, Err, Result}
use Rattle.closure.specs.Kinds.{Kind, Meaning, most_places}
use Rattle.closure.specs.Walks.{Bad, Closure}
use Rattle.closure.specs.declared.tables.Unclosed.{Unclosed}
use Rattle.closure.specs.declared.tables.Unclosed.TheVariants.{BadCycle, WrongSize, OutOfRange}

-- the weight that stands at p in the list
abbrev pub weight_at : {W : Type 0} (meaning : Meaning W) → List W → ℕ → meaning.Value
weight_at meaning l p = slice_index_or (map meaning.value l) p meaning.kind.none

-- the table that the list holds, n rows of n weights: the entry in row i and column j
abbrev pub entry : {W : Type 0} (meaning : Meaning W) → ℕ → List W → ℕ → ℕ → meaning.Value
entry meaning n l i j = weight_at meaning l (i * n + j)

-- the list holds a table of n places, and they are not too many
abbrev pub Sized : {W : Type 0} → ℕ → List W → Type 0
Sized n l = (n ≤ most_places) × (length l ≡ n * n)

-- of the entries before the place p, each is one of those that R allows in its row and column
abbrev pub FilledBefore : {W : Type 0} → (ℕ → ℕ → W → Type 0) → ℕ → List W → ℕ → Type 0
FilledBefore {W} R n l p = (k : ℕ) (d : W) → k < p → R (k / n) (k % n) (slice_index_or l k d)

-- each entry of the list is, as a table of n places
abbrev pub Filled : {W : Type 0} → (ℕ → ℕ → W → Type 0) → ℕ → List W → Type 0
Filled R n l = FilledBefore R n l (length l)

-- the weights before p may be given: they are within reach of one link
abbrev pub GivenBefore : {W : Type 0} → Meaning W → List W → ℕ → Type 0
GivenBefore meaning l p = (k : ℕ) → k < p → meaning.kind.reach 1 (weight_at meaning l k)

-- the first weight that may not be given stands at p
pub record FirstBeyond {W : Type 0} (meaning : Meaning W) (l : List W) (p : ℕ) : Type 0 where
  pub within : p < length l
  pub beyond : meaning.kind.reach 1 (weight_at meaning l p) → ⊥
  pub before : GivenBefore meaning l p

-- each entry of the table is within reach of as many links as a walk by distinct places can have
abbrev pub Near : {W : Type 0} → Kind W → ℕ → (ℕ → ℕ → W) → Type 0
Near kind n u = (i j : ℕ) → i < n → j < n → kind.reach (n + 1) (u i j)

-- the list l, closed as a table of n places, becomes the list m, with this answer
abbrev pub Closes : {W : Type 0} → Meaning W → ℕ → List W → List W → Result (Unit {0}) Unclosed → Type 0
Closes meaning n l m (Ok done) =
    Sized n l × GivenBefore meaning l (length l) × Closure meaning.kind n (entry meaning n l) (entry meaning n m) × Near meaning.kind n (entry meaning n m)
Closes meaning n l m (Err WrongSize) = (Sized n l → ⊥) × (m ≡ l)
Closes meaning n l m (Err (OutOfRange p)) = Sized n l × FirstBeyond meaning l p × (m ≡ l)
Closes meaning n l m (Err (BadCycle p)) = Sized n l × GivenBefore meaning l (length l) × Bad meaning.kind n (entry meaning n l) p
