-- What the functions below closing speak of.
use Rattle.std.specs.Prelude.{ℕ, ◌+◌, ◌-◌, ◌<◌, cond, nat_lt}
use Rattle.closure.specs.Kinds.{Kind, AsGood}

-- how many rows the row a comes after the row k, where the first of n rows follows the last
abbrev pub rows_after : ℕ → ℕ → ℕ → ℕ
rows_after n k a = cond (nat_lt a k) (a + n - k) (a - k)

-- no entry on the diagonal is better than the unit
abbrev pub Fair : {W : Type 0} → Kind W → ℕ → (ℕ → ℕ → W) → Type 0
Fair kind n u = (p : ℕ) → p < n → AsGood kind kind.unit (u p p)

-- each entry may be given: it is within reach of one link
pub record Given {W : Type 0} (kind : Kind W) (n : ℕ) (t : ℕ → ℕ → W) : Type 0 where
  pub each : (i j : ℕ) → i < n → j < n → kind.reach 1 (t i j)
