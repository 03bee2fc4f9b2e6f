-- What each part of a filled table asks of the dates z of its places, where event e of a chart stands at the place first + e.
use Rattle.std.specs.Prelude.{ℕ, ◌+◌, ◌*◌, ◌<◌, ◌≤◌, List, length, get_or, ℤ, pos, ◌≤ℤ◌, Some, nat_lt, slice_index_or}
use Rattle.bookformat.specs.declared.value.Event.{Event}
use Rattle.bookformat.specs.declared.value.Constraint.{Constraint}
use Rattle.bookformat.specs.declared.value.Interval.{Interval}
use Rattle.bookformat.specs.Values.{BookValue}
use Rattle.bookformat.specs.Rules.{DirectlyBefore, no_constraint, unbounded, Proper}
use Rattle.fullchart.specs.Finds.{FirstOn}
use Rattle.paths.specs.Datings.{Within, drift_of}
use Rattle.paths.specs.Profiles.{difference}

-- the order of two events
abbrev pub BeforeKept : List Event → ℕ → ℕ → ℕ → (ℕ → ℕ) → Type 0
BeforeKept es first e f z = DirectlyBefore es e f → z (first + e) ≤ z (first + f)

-- the order of one event and each other
abbrev pub OrderKeptFrom : List Event → ℕ → ℕ → (ℕ → ℕ) → Type 0
OrderKeptFrom es first e z = (f : ℕ) → f < length es → BeforeKept es first e f z

abbrev pub OrderKept : List Event → ℕ → (ℕ → ℕ) → Type 0
OrderKept es first z = (e : ℕ) → e < length es → OrderKeptFrom es first e z

-- one constraint
abbrev pub ConstraintKept : List Constraint → ℕ → ℕ → (ℕ → ℕ) → Type 0
ConstraintKept cs first k z = Within (get_or cs k no_constraint).interval (z (first + (get_or cs k no_constraint).first)) (z (first + (get_or cs k no_constraint).second))

abbrev pub ConstraintsKept : List Constraint → ℕ → (ℕ → ℕ) → Type 0
ConstraintsKept cs first z = (k : ℕ) → k < length cs → ConstraintKept cs first k z

-- constraint k can be entered in a table of n places
pub record Enterable (n : ℕ) (cs : List Constraint) (first k : ℕ) : Type 0 where
  pub first_inside : first + (get_or cs k no_constraint).first < n
  pub second_inside : first + (get_or cs k no_constraint).second < n
  pub proper : Proper (get_or cs k no_constraint).interval

-- the drift bound of two events, of which the first so many are working ones
abbrev pub DriftKept : BookValue → ℕ → ℕ → ℕ → ℕ → (ℕ → ℕ) → Type 0
DriftKept b working first e f z = z (first + e) ≤ z (first + f) + drift_of b (nat_lt e working) (nat_lt f working)

-- the drift bounds of one event and each other
abbrev pub DriftsKeptFrom : BookValue → ℕ → ℕ → ℕ → ℕ → (ℕ → ℕ) → Type 0
DriftsKeptFrom b working count first e z = (f : ℕ) → f < count → DriftKept b working first e f z

abbrev pub DriftsKept : BookValue → ℕ → ℕ → ℕ → (ℕ → ℕ) → Type 0
DriftsKept b working count first z = (e : ℕ) → e < count → DriftsKeptFrom b working count first e z

-- a profile as an array: the entry of stations p and q stands at 8 p + q
abbrev pub entries_of : List ℤ → ℕ → ℕ → ℤ
entries_of a p q = slice_index_or a (8 * p + q) (pos 0)

-- the entries of one station and each other
abbrev pub ProfileKeptFrom : (ℕ → ℕ → ℤ) → ℕ → ℕ → (ℕ → ℕ) → Type 0
ProfileKeptFrom P stations p z = (q : ℕ) → q < stations → difference (z p) (z q) ≤ℤ P p q

abbrev pub ProfileKept : (ℕ → ℕ → ℤ) → ℕ → (ℕ → ℕ) → Type 0
ProfileKept P stations z = (p : ℕ) → p < stations → ProfileKeptFrom P stations p z

-- the interval of station p, whose first event is looked for in the list of the events' stations; the stations' last events before the link stand at the first places
abbrev pub CrossingKept : Interval → List ℕ → ℕ → ℕ → (ℕ → ℕ) → Type 0
CrossingKept i events stations p z = (f : ℕ) → FirstOn events p (Some f) → Within i (z p) (z (stations + f))

-- the intervals of the first n stations
abbrev pub CrossingsKept : List Interval → List ℕ → ℕ → ℕ → (ℕ → ℕ) → Type 0
CrossingsKept is events stations n z = (p : ℕ) → p < n → CrossingKept (slice_index_or is p unbounded) events stations p z
