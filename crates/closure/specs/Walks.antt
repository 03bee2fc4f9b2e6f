-- Walks over a table of weights, and its closure.
use Rattle.std.specs.Prelude.{◌≡◌, ℕ, ◌<◌, true, List, [], ◌∷◌, ◌≢◌}
use Rattle.closure.specs.Kinds.{Kind, AsGood}

-- a walk from i by the places ps, in turn, to j: each place is below n, and each link is there
abbrev pub Walk : {W : Type 0} → Kind W → ℕ → (ℕ → ℕ → W) → ℕ → List ℕ → ℕ → Type 0
Walk kind n t i [] j = t i j ≡ kind.none → ⊥
Walk kind n t i (p ∷ ps) j = (p < n) × (t i p ≢ kind.none) × Walk kind n t p ps j

-- its weight: its links' weights, followed in turn
abbrev pub weight : {W : Type 0} → Kind W → (ℕ → ℕ → W) → ℕ → List ℕ → ℕ → W
weight kind t i [] j = t i j
weight kind t i (p ∷ ps) j = kind.follow (t i p) (weight kind t p ps j)

-- a bad cycle: a walk from p back to p is better than the unit
pub record Bad {W : Type 0} (kind : Kind W) (n : ℕ) (t : ℕ → ℕ → W) (p : ℕ) : Type 0 where
  pub place : p < n
  pub by : List ℕ
  pub walk : Walk kind n t p by p
  pub better : kind.better (weight kind t p by p) kind.unit ≡ true

-- some walk from i to j has the weight w
pub record Attained {W : Type 0} (kind : Kind W) (n : ℕ) (t : ℕ → ℕ → W) (i j : ℕ) (w : W) : Type 0 where
  pub by : List ℕ
  pub walk : Walk kind n t i by j
  pub is : w ≡ weight kind t i by j

-- w is the best weight of all walks from i to j, or none if there is no walk
pub record Best {W : Type 0} (kind : Kind W) (n : ℕ) (t : ℕ → ℕ → W) (i j : ℕ) (w : W) : Type 0 where
  pub bound : (by : List ℕ) → Walk kind n t i by j → AsGood kind w (weight kind t i by j)
  pub attained : (w ≢ kind.none) → Attained kind n t i j w
  pub absent : ((by : List ℕ) → Walk kind n t i by j → ⊥) → w ≡ kind.none

-- the table u is the closure of the table t: without a bad cycle, and with the best weights as entries
pub record Closure {W : Type 0} (kind : Kind W) (n : ℕ) (t u : ℕ → ℕ → W) : Type 0 where
  pub sound : (p : ℕ) → Bad kind n t p → ⊥
  pub best : (i j : ℕ) → i < n → j < n → Best kind n t i j (u i j)
