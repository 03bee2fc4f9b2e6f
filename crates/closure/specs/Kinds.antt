-- What a kind of weight is: a total order, an operation, its unit and a worst weight.
use Rattle.std.specs.Prelude.{◌≡◌, ℕ, ◌+◌, ◌≤◌, Bool, false, cond, ◌⊎◌}

pub record Kind (W : Type 0) : Type 1 where
  -- the first is better than the second
  pub better : W → W → Bool
  -- the first and then the second
  pub follow : W → W → W
  pub unit : W
  pub none : W
  -- the weight is one that so many given links, followed in turn, may have
  pub reach : ℕ → W → Type 0

-- a is better than b or equal to it
abbrev pub AsGood : {W : Type 0} → Kind W → W → W → Type 0
AsGood kind a b = kind.better b a ≡ false

-- the better of two weights
abbrev pub better_of : {W : Type 0} → Kind W → W → W → W
better_of kind a b = cond (kind.better a b) a b

pub record Laws {W : Type 0} (kind : Kind W) : Type 0 where
  -- the order is total
  pub reflexive : (a : W) → AsGood kind a a
  pub transitive : (a b c : W) → AsGood kind a b → AsGood kind b c → AsGood kind a c
  pub antisymmetric : (a b : W) → AsGood kind a b → AsGood kind b a → a ≡ b
  pub total : (a b : W) → AsGood kind a b ⊎ AsGood kind b a
  -- to follow is associative, and keeps the order on both sides
  pub assoc : (a b c : W) → kind.follow (kind.follow a b) c ≡ kind.follow a (kind.follow b c)
  pub keeps_left : (a b c : W) → AsGood kind a b → AsGood kind (kind.follow c a) (kind.follow c b)
  pub keeps_right : (a b c : W) → AsGood kind a b → AsGood kind (kind.follow a c) (kind.follow b c)
  -- the unit is neutral
  pub unit_left : (a : W) → kind.follow kind.unit a ≡ a
  pub unit_right : (a : W) → kind.follow a kind.unit ≡ a
  -- none absorbs, and is worst
  pub none_left : (a : W) → kind.follow kind.none a ≡ kind.none
  pub none_right : (a : W) → kind.follow a kind.none ≡ kind.none
  pub worst : (a : W) → AsGood kind a kind.none
  -- the links of two weights add up
  pub reach_more : (m k : ℕ) (a : W) → m ≤ k → kind.reach m a → kind.reach k a
  pub reach_follow : (m k : ℕ) (a b : W) → kind.reach m a → kind.reach k b → kind.reach (m + k) (kind.follow a b)

-- What the values of the code's type W mean: weights of a kind.
pub record Meaning (W : Type 0) : Type 1 where
  pub Value : Type 0
  pub value : W → Value
  pub kind : Kind Value

-- so many places a table has at most
abbrev pub most_places : ℕ
most_places = 54

-- a walk whose inner places are distinct has no more links: one more than there are places
abbrev pub most_links : ℕ
most_links = 55
