-- The links between the events of a chart, as a table of weights.
use Rattle.std.specs.Prelude.{◌≡◌, ℕ, ◌<◌, Bool, true, false}
use Rattle.closure.specs.declared.kinds.Before.{Before}
use Rattle.closure.specs.declared.kinds.Before.TheVariants.{Linked, Unlinked}

abbrev pub link_of : Bool → Before
link_of true = Linked
link_of false = Unlinked

-- no place below n is linked to itself
abbrev pub NoLoop : ℕ → (ℕ → ℕ → Before) → Type 0
NoLoop n u = (e : ℕ) → e < n → u e e ≡ Unlinked
