-- What the rules ask of the dates z in a list, where event e of a chart stands at the place first + e.
use Rattle.std.specs.Prelude.{ℕ, ◌+◌, ◌<◌, ◌≤◌, List, length, Some, nat_lt, slice_index_or}
use Rattle.bookformat.specs.declared.value.Event.{Event}
use Rattle.bookformat.specs.declared.value.Interval.{Interval}
use Rattle.bookformat.specs.declared.value.Link.{Link}
use Rattle.bookformat.specs.declared.value.Constraint.{Constraint}
use Rattle.bookformat.specs.Values.{ChartValue, BookValue}
use Rattle.bookformat.specs.Rules.{DirectlyBefore, no_constraint, chart}
use Rattle.paths.specs.Charts.{event_count}
use Rattle.paths.specs.Datings.{Within, drift_of, KeepsChart, KeepsLink}
use Rattle.fullchart.specs.Finds.{FirstOn, LastOn, IsFull}
use Rattle.routes.specs.declared.stop.Stop.{Stop}

-- Q holds of every number below n
abbrev pub Each : ℕ → (ℕ → (ℕ → ℕ) → Type 0) → (ℕ → ℕ) → Type 0
Each n Q z = (k : ℕ) → k < n → Q k z

-- the order of two events
abbrev pub BeforeKept : List Event → ℕ → ℕ → ℕ → (ℕ → ℕ) → Type 0
BeforeKept es first e f z = DirectlyBefore es e f → z (first + e) ≤ z (first + f)

-- constraint k of a list
abbrev pub listed : List Constraint → ℕ → Constraint
listed cs k = slice_index_or cs k no_constraint

abbrev pub ConstraintKept : List Constraint → ℕ → ℕ → (ℕ → ℕ) → Type 0
ConstraintKept cs first k z = Within (listed cs k).interval (z (first + (listed cs k).first)) (z (first + (listed cs k).second))

-- constraint k can be met among n dates
pub record Meetable (n : ℕ) (cs : List Constraint) (first k : ℕ) : Type 0 where
  pub first_inside : first + (listed cs k).first < n
  pub second_inside : first + (listed cs k).second < n
  pub small : (listed cs k).interval.lower ≤ 10000

-- the drift bound of two events, of which the first so many are working ones
abbrev pub DriftKept : BookValue → ℕ → ℕ → ℕ → ℕ → (ℕ → ℕ) → Type 0
DriftKept b working first e f z = z (first + e) ≤ z (first + f) + drift_of b (nat_lt e working) (nat_lt f working)

-- all rules of a chart
abbrev pub ChartKept : BookValue → ChartValue → ℕ → (ℕ → ℕ) → Type 0
ChartKept b c first z = KeepsChart b c (λ e. z (first + e))

-- the stop's chart exists, and its dates are among so many
pub record Placed (b : BookValue) (s : Stop) (room : ℕ) : Type 0 where
  pub exists : s.number < length b.charts
  pub full : IsFull b (chart b s.number) s.full
  pub inside : s.first + event_count b (chart b s.number) ≤ room

-- the interval i between the last event of station p in one list of stations and its first in another
abbrev pub StationKept : Interval → ℕ → List ℕ → ℕ → List ℕ → ℕ → (ℕ → ℕ) → Type 0
StationKept i p left first entered next z = (e f : ℕ) → LastOn left p (Some e) → FirstOn entered p (Some f) → Within i (z (first + e)) (z (next + f))

-- all intervals of a link
abbrev pub LinkKept : BookValue → Link → ChartValue → ℕ → ChartValue → ℕ → (ℕ → ℕ) → Type 0
LinkKept b l c first c' next z = KeepsLink b l c c' (λ e. z (first + e)) (λ f. z (next + f))
