-- What is read along the chain of rows that a path came by.
use Rattle.std.specs.Prelude.{◌≡◌, ℕ, suc, ◌-◌, ◌≤◌, List, length, take, Some, None, Ok, Err, Option, Result}
use Rattle.bookformat.specs.declared.fault.Fault.{Fault}
use Rattle.bookformat.specs.declared.fault.Fault.TheVariants as fault
use Rattle.bookformat.specs.Values.{BookValue}
use Rattle.paths.specs.Paths.{Path}
use Rattle.paths.specs.Datings.{Datable}
use Rattle.paths.specs.Listing.{events_of}
use Rattle.register.specs.declared.row.Origin.{Origin}
use Rattle.register.specs.declared.row.Row.{Row}
use Rattle.register.specs.Meaning.{row_at}
use Rattle.history.specs.declared.phase.Phase.{Phase}
use Rattle.history.specs.declared.phase.Phase.TheVariants.{Idle, Open, Runs, Empty, Spent}
use Rattle.history.specs.declared.calls.Leg.{Leg}
use Rattle.history.specs.Meanings.{TrailTo, ChartsIn, DatesShown, RestKept}

-- of the path to row k: how many charts it has, for whatever book
abbrev pub CountsTo : List Row → ℕ → ℕ → Type 0
CountsTo rows k n = (b : BookValue) (path : List ℕ) → TrailTo b rows k path → n ≡ suc (length path)

abbrev pub CountsIn : List Row → Phase → ℕ → Type 0
CountsIn rows f n = (b : BookValue) → ChartsIn b rows f n

-- the row that is n rows up
abbrev pub ClimbsTo : List Row → ℕ → ℕ → ℕ → Type 0
ClimbsTo rows k n up = (b : BookValue) (path : List ℕ) → TrailTo b rows k path → n ≤ length path → TrailTo b rows up (take (length path - n) path)

-- the chart of a row, and the link by which it came
abbrev pub link_of : Option Origin → Option ℕ
link_of None = None
link_of (Some o) = Some o.link

abbrev pub LegAt : List Row → ℕ → Leg → Type 0
LegAt rows k leg = (leg.chart ≡ (row_at rows k).class.chart) × (leg.link ≡ link_of (row_at rows k).origin)

-- the links of the path to row k
abbrev pub LinksTo : List Row → ℕ → List ℕ → Type 0
LinksTo rows k links = (b : BookValue) (path : List ℕ) → TrailTo b rows k path → links ≡ path

-- the row where the examination runs, or why there is none
abbrev pub GoalIn : Phase → Result ℕ Fault → Type 0
GoalIn Idle r = r ≡ Err fault.Idle
GoalIn (Open p l) r = r ≡ Err fault.NotRunning
GoalIn (Runs k) r = r ≡ Ok k
GoalIn Empty r = r ≡ Err fault.NotRunning
GoalIn Spent r = r ≡ Err fault.NotRunning

-- a list of links that is dated is a path, and there is room for its dates
abbrev pub PathDated : BookValue → List ℕ → List ℕ → Result ℕ Fault → Type 0
PathDated b links lent (Ok n) = Path b links × (events_of b links ≤ length lent)
PathDated b links lent (Err f) = Unit {0}

-- the dates of a list of links, if that is a path
pub record DatedLinks (b : BookValue) (links lent : List ℕ) (r : Result ℕ Fault) (left : List ℕ) : Type 0 where
  pub dates : Path b links → Datable b links → DatesShown b links lent r left
  pub dated : PathDated b links lent r
  pub rest : RestKept lent r left
