-- Datings of a path, and the five rules that they keep.
use Rattle.std.specs.Prelude.{◌≡◌, ℕ, suc, ◌+◌, ◌<◌, ◌≤◌, Bool, true, false, ◌⊎◌, List, length, Some, nat_lt, slice_index_or}
use Rattle.bookformat.specs.declared.value.Interval.{Interval}
use Rattle.bookformat.specs.declared.value.Constraint.{Constraint}
use Rattle.bookformat.specs.declared.value.Link.{Link}
use Rattle.bookformat.specs.Values.{ChartValue, BookValue}
use Rattle.bookformat.specs.Rules.{unbounded, no_constraint, DirectlyBefore}
use Rattle.paths.specs.Charts.{Working, event_count, First, Last}
use Rattle.paths.specs.Paths.{link_at, chart_at}

-- y minus x lies in the interval
pub record Within (i : Interval) (x y : ℕ) : Type 0 where
  pub not_under : x + i.lower ≤ y
  pub not_over : (u : ℕ) → i.upper ≡ Some u → y ≤ x + u

-- constraint k of a chart
abbrev pub constraint : ChartValue → ℕ → Constraint
constraint c k = slice_index_or c.constraints k no_constraint

-- the interval of a link for station p
abbrev pub interval : Link → ℕ → Interval
interval l p = slice_index_or l.intervals p unbounded

-- the drift bound of two events, by whether each of them is a working one: near for two working events, else far
abbrev pub drift_of : BookValue → Bool → Bool → ℕ
drift_of b true true = b.near
drift_of b true false = b.far
drift_of b false true = b.far
drift_of b false false = b.far

-- the drift bound of events e and f of a full chart
abbrev pub drift : BookValue → ChartValue → ℕ → ℕ → ℕ
drift b c e f = drift_of b (nat_lt e (length c.events)) (nat_lt f (length c.events))

-- one or both of two events of the full chart are silent
pub record SilentPair (b : BookValue) (c : ChartValue) (e f : ℕ) : Type 0 where
  pub first_exists : e < event_count b c
  pub second_exists : f < event_count b c
  pub silent : (length c.events ≤ e) ⊎ (length c.events ≤ f)

-- the rules of one chart, whose event e has the date d e
pub record KeepsChart (b : BookValue) (c : ChartValue) (d : ℕ → ℕ) : Type 0 where
  -- 1: an event directly before another is dated no later than it
  pub order : (e f : ℕ) → DirectlyBefore c.events e f → d e ≤ d f
  -- 2: each constraint holds: the date of the second event minus that of the first lies in the interval
  pub constraints : (k : ℕ) → k < length c.constraints → Within (constraint c k).interval (d (constraint c k).first) (d (constraint c k).second)
  -- 4: two working events differ by at most their drift bound, which is near
  pub near : (e f : ℕ) → Working c e → Working c f → d e ≤ d f + drift b c e f
  -- 5: two events, one or both silent, differ by at most their drift bound, which is far
  pub far : (e f : ℕ) → SilentPair b c e f → d e ≤ d f + drift b c e f

-- the rule of a link from a chart c, dated d, to a chart c', dated d'
pub record KeepsLink (b : BookValue) (l : Link) (c c' : ChartValue) (d d' : ℕ → ℕ) : Type 0 where
  -- 3: each interval holds between the station's last event in the earlier chart and its first in the later
  pub intervals : (p e f : ℕ) → p < b.stations → Last b c p e → First b c' p f → Within (interval l p) (d e) (d' f)

-- a dating gives event e of the chart at position k the date d k e
pub record Dating (b : BookValue) (path : List ℕ) (d : ℕ → ℕ → ℕ) : Type 0 where
  pub charts : (k : ℕ) → k ≤ length path → KeepsChart b (chart_at b path k) (d k)
  pub links : (k : ℕ) → k < length path → KeepsLink b (link_at b path k) (chart_at b path k) (chart_at b path (suc k)) (d k) (d (suc k))

-- the path has a dating
abbrev pub Datable : BookValue → List ℕ → Type 0
Datable b path = (d : ℕ → ℕ → ℕ) × Dating b path d

-- event e is one of the events of the path at position k
pub record EventOf (b : BookValue) (path : List ℕ) (k e : ℕ) : Type 0 where
  pub position : k ≤ length path
  pub event : e < event_count b (chart_at b path k)

-- the dating that dates every event no later than any other dating of the path
pub record Earliest (b : BookValue) (path : List ℕ) (d : ℕ → ℕ → ℕ) : Type 0 where
  pub dating : Dating b path d
  pub earliest : (d' : ℕ → ℕ → ℕ) → Dating b path d' → (k e : ℕ) → EventOf b path k e → d k e ≤ d' k e
