-- What an examination and its register hold, and how that is a walk by breadth.
use Rattle.std.specs.Prelude.{◌≡◌, ℕ, List, map, Some, None, Option}
use Rattle.bookformat.specs.Values.{BookValue}
use Rattle.register.specs.declared.row.Origin.{Origin}
use Rattle.register.specs.declared.row.Row.{Row}
use Rattle.search.specs.Rows.{Origin as WalkOrigin, Row as WalkRow}
use Rattle.search.specs.Walks as walk
use Rattle.search.specs.Walks.{Stage}
use Rattle.classes.specs.Ranged.{ranged}
use Rattle.history.specs.declared.phase.State.{State}
use Rattle.history.specs.declared.phase.State.TheVariants as st
use Rattle.history.specs.declared.phase.Phase.{Phase}
use Rattle.history.specs.declared.phase.Phase.TheVariants.{Idle, Open, Runs, Empty, Spent}

-- the state that a phase is told as
abbrev pub state_of : Phase → State
state_of Idle = st.Idle
state_of (Open p l) = st.Open
state_of (Runs k) = st.Runs
state_of Empty = st.Empty
state_of Spent = st.Spent

-- the book last taken, where the walk stands, and the rows
pub record View : Type 0 where
  pub book : BookValue
  pub phase : Phase
  pub rows : List Row

-- nothing has changed
pub record Same (v w : View) : Type 0 where
  pub book : w.book ≡ v.book
  pub phase : w.phase ≡ v.phase
  pub rows : w.rows ≡ v.rows

-- The same as a walk through the classes of the book's datable paths. (Steps are from entries within range, which every such class has.)

abbrev pub phase_of : Phase → walk.Phase
phase_of Idle = walk.Idle
phase_of (Open p l) = walk.Open p l
phase_of (Runs k) = walk.Runs k
phase_of Empty = walk.Empty
phase_of Spent = walk.Spent

abbrev pub origin_of : Option Origin → Option WalkOrigin
origin_of None = None
origin_of (Some o) = Some (record { row = o.row; link = o.link })

abbrev pub row_of : (b : BookValue) → Row → WalkRow (ranged b)
row_of b r = record { class = r.class; origin = origin_of r.origin }

abbrev pub rows_of : (b : BookValue) → List Row → List (WalkRow (ranged b))
rows_of b rows = map (row_of b) rows

-- what the walk has come to, with these pairs tried
abbrev pub stage_of : (v : View) → List (ℕ × ℕ) → Stage (ranged v.book)
stage_of v tried = record { rows = rows_of v.book v.rows; tried = tried; phase = phase_of v.phase }
