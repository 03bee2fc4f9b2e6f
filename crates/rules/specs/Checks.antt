-- What the tests of the rules of one chart, or of one link, decide.
use Rattle.std.specs.Prelude.{ℕ, ◌+◌, ◌<◌, ◌≤◌, List, length, Some, None, Option, nat_lt, slice_index, slice_index_or}
use Rattle.bookformat.specs.declared.value.Event.{Event}
use Rattle.bookformat.specs.declared.value.Interval.{Interval}
use Rattle.bookformat.specs.declared.value.Constraint.{Constraint}
use Rattle.bookformat.specs.Values.{BookValue}
use Rattle.bookformat.specs.Rules.{no_constraint, DirectlyBefore}
use Rattle.paths.specs.Datings.{Within, drift_of}
use Rattle.fullchart.specs.Finds.{FirstOn, LastOn}

-- the date of event e of a chart, whose dates are listed by event number
abbrev pub date : List ℕ → ℕ → ℕ
date dates e = slice_index dates e

-- constraint k of a list
abbrev pub listed : List Constraint → ℕ → Constraint
listed cs k = slice_index_or cs k no_constraint

-- it holds
abbrev pub Holds : List Constraint → List ℕ → ℕ → Type 0
Holds cs dates k = Within (listed cs k).interval (date dates (listed cs k).first) (date dates (listed cs k).second)

abbrev pub HoldBelow : List Constraint → List ℕ → ℕ → Type 0
HoldBelow cs dates n = (k : ℕ) → k < n → Holds cs dates k

-- which constraint is the first that does not hold
abbrev pub FirstBroken : List Constraint → List ℕ → Option ℕ → Type 0
FirstBroken cs dates None = HoldBelow cs dates (length cs)
FirstBroken cs dates (Some k) = (k < length cs) × (Holds cs dates k → ⊥) × HoldBelow cs dates k

-- the events of constraint k are dated
abbrev pub NamesDated : List Constraint → List ℕ → ℕ → Type 0
NamesDated cs dates k = ((listed cs k).first < length dates) × ((listed cs k).second < length dates)

-- P holds of all numbers below n
abbrev pub AllBelow : ℕ → (ℕ → Type 0) → Type 0
AllBelow n P = (k : ℕ) → k < n → P k

-- P holds of all pairs of numbers below n
abbrev pub AllPairs : ℕ → (ℕ → ℕ → Type 0) → Type 0
AllPairs n P = (e f : ℕ) → e < n → f < n → P e f

-- an event directly before another is dated no later than it
abbrev pub InOrder : List Event → List ℕ → ℕ → ℕ → Type 0
InOrder es dates e f = DirectlyBefore es e f → date dates e ≤ date dates f

-- event e is dated at most the drift bound after event f, where so many events are working ones
abbrev pub InDrift : BookValue → ℕ → List ℕ → ℕ → ℕ → Type 0
InDrift b working dates e f = date dates e ≤ date dates f + drift_of b (nat_lt e working) (nat_lt f working)

-- every event that the tests of a chart look at is dated
pub record Covered (es : List Event) (cs : List Constraint) (dates : List ℕ) : Type 0 where
  pub events : length es ≤ length dates
  pub named : (k : ℕ) → k < length cs → NamesDated cs dates k

-- what all the tests of a chart together decide
pub record Passes (b : BookValue) (es : List Event) (cs : List Constraint) (working : ℕ) (dates : List ℕ) : Type 0 where
  pub order : AllPairs (length es) (InOrder es dates)
  pub constraints : HoldBelow cs dates (length cs)
  pub drift : AllPairs (length dates) (InDrift b working dates)

-- the interval holds between the last event of station p in one full chart and its first in another
pub record StationKept (i : Interval) (p : ℕ) (before earlier after later : List ℕ) : Type 0 where
  pub between : (e f : ℕ) → LastOn before p (Some e) → FirstOn after p (Some f) → Within i (date earlier e) (date later f)
