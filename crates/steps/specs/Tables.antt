-- A list of weights as a table of bounds.
use Rattle.std.specs.Prelude.{ℕ, cond, List, length, ℤ, pos, Some, None, Option, ◌==◌}
use Rattle.closure.specs.Closings.{entry, Sized, GivenBefore}
use Rattle.closure.specs.Tickings.{ticks_meaning}
use Rattle.closure.specs.declared.kinds.Ticks.{Ticks}
use Rattle.paths.specs.Tables.{Table, Own}

-- the table of n places that the list holds, row after row
abbrev pub table_of : ℕ → List Ticks → Table
table_of n l = entry ticks_meaning n l

-- it can be closed, and each place is at most 0 ticks from itself
pub record Usable (n : ℕ) (l : List Ticks) : Type 0 where
  pub sized : Sized n l
  pub given : GivenBefore ticks_meaning l (length l)
  pub own : Own n (table_of n l)

-- what stands from i to j in a table that asks nothing
abbrev pub blank_weight : ℕ → ℕ → Option ℤ
blank_weight i j = cond (i == j) (Some (pos 0)) None
