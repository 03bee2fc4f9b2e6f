-- Paths of links, and the classes that they fall into.
use Rattle.std.specs.Prelude.{◌≡◌, ℕ, ◌<◌, Bool, true, List, [], ◌∷◌, ◌++◌}

-- Links are numbered from 0. A path is the list of its links in order, and begins without one. A class is all that a walk needs to know of a path
pub record System : Type 1 where
  pub Class : Type 0
  -- the path counts, and is in the class
  pub In : List ℕ → Class → Type 0
  -- how many links there are
  pub links : ℕ
  -- the link begins where the paths of the class end
  pub begins : Class → ℕ → Bool
  -- a path of the first class and the link make a path of the second
  pub leads : Class → ℕ → Class → Type 0
  -- the paths of the class are final
  pub final : Class → Bool
  -- what is read where there is no row
  pub blank : Class

-- the paths of the class go on by the link
abbrev pub Goes : (y : System) → y.Class → ℕ → Type 0
Goes y s l = (t : y.Class) × y.leads s l t

pub record Lawful (y : System) : Type 0 where
  -- the path without links is in one class at most, and a link leads to one at most
  pub one_start : (s t : y.Class) → y.In [] s → y.In [] t → s ≡ t
  pub one_way : (s t u : y.Class) (l : ℕ) → y.leads s l t → y.leads s l u → t ≡ u
  -- a link that leads on is one of the links, and begins where the paths of the class end
  pub numbered : (s t : y.Class) (l : ℕ) → y.leads s l t → l < y.links
  pub begun : (s t : y.Class) (l : ℕ) → y.leads s l t → y.begins s l ≡ true
  -- a path of a class and a link make a path of the class where the link leads, and each longer path is made so
  pub onward : (path : List ℕ) (s t : y.Class) (l : ℕ) → y.In path s → y.leads s l t → y.In (path ++ l ∷ []) t
  pub back : (path : List ℕ) (t : y.Class) (l : ℕ) → y.In (path ++ l ∷ []) t → (s : y.Class) × y.In path s × y.leads s l t

-- what a walk asks can be decided: whether the path without links counts, whether paths go on, and whether two classes are one
pub record Decided (y : System) : Type 0 where
  pub starts : Dec ((s : y.Class) × y.In [] s)
  pub goes : (s : y.Class) (l : ℕ) → Dec (Goes y s l)
  pub same : (s t : y.Class) → Dec (s ≡ t)
