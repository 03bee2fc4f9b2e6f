-- The rules of a dating as bounds on differences, and walks of bounds.
use Rattle.std.specs.Prelude.{◌≡◌, ℕ, suc, ◌<◌, ◌≤◌, List, length, ℤ, pos, ◌+ℤ◌, neg_ℤ, ◌≤ℤ◌, ◌<ℤ◌, Some}
use Rattle.bookformat.specs.declared.value.Interval.{Interval}
use Rattle.bookformat.specs.declared.value.Link.{Link}
use Rattle.bookformat.specs.Values.{ChartValue, BookValue}
use Rattle.bookformat.specs.Rules.{DirectlyBefore}
use Rattle.paths.specs.Charts.{Working, First, Last}
use Rattle.paths.specs.Paths.{link_at, chart_at}
use Rattle.paths.specs.Datings.{constraint, interval, drift, SilentPair}
use Rattle.paths.specs.Profiles.{difference}

-- the rules of a dating
pub data Rule : Type 0 where
  by_order by_constraint by_link by_near by_far : Rule

abbrev pub rule_number : Rule → ℕ
rule_number by_order = 1
rule_number by_constraint = 2
rule_number by_link = 3
rule_number by_near = 4
rule_number by_far = 5

-- A bound of w ticks from one event to another says: the date of the second minus that of the first is at most w.
-- An interval from x to y bounds both directions: upper ticks from x to y, if there is an upper end, and minus lower ticks from y to x
pub data IntervalBound {X : Type 0} (i : Interval) (x y from to : X) (w : ℤ) : Type 0 where
  upper : (u : ℕ) → i.upper ≡ Some u → from ≡ x → to ≡ y → w ≡ pos u → IntervalBound i x y from to w
  lower : from ≡ y → to ≡ x → w ≡ neg_ℤ (pos i.lower) → IntervalBound i x y from to w

-- the bounds between the events of one full chart, each with its rule
pub data ChartBound (b : BookValue) (c : ChartValue) (from to : ℕ) (w : ℤ) (r : Rule) : Type 0 where
  order : r ≡ by_order → DirectlyBefore c.events to from → w ≡ pos 0 → ChartBound b c from to w r
  constraint_interval : (k : ℕ) → r ≡ by_constraint → k < length c.constraints → IntervalBound (constraint c k).interval (constraint c k).first (constraint c k).second from to w → ChartBound b c from to w r
  near : r ≡ by_near → Working c from → Working c to → w ≡ pos (drift b c to from) → ChartBound b c from to w r
  far : r ≡ by_far → SilentPair b c to from → w ≡ pos (drift b c to from) → ChartBound b c from to w r

-- an event of the chart that a link leaves, or of the chart that it enters
pub data Side : Type 0 where
  left entered : ℕ → Side

-- the bounds between the events of two full charts that a link joins
pub data LinkBound (b : BookValue) (l : Link) (c c' : ChartValue) (from to : Side) (w : ℤ) (r : Rule) : Type 0 where
  link_interval : (p e f : ℕ) → r ≡ by_link → p < b.stations → Last b c p e → First b c' p f → IntervalBound (interval l p) (left e) (entered f) from to w → LinkBound b l c c' from to w r

-- an event of a path: its position, and its number in the full chart there
abbrev pub PathEvent : Type 0
PathEvent = ℕ × ℕ

-- the event on either side of the link that leaves position k
abbrev pub on_side : ℕ → Side → PathEvent
on_side k (left e) = (k, e)
on_side k (entered e) = (suc k, e)

-- the bounds between the events of a path: those of its charts and of its links
pub data PathBound (b : BookValue) (path : List ℕ) (from to : PathEvent) (w : ℤ) (r : Rule) : Type 0 where
  in_chart : (k e f : ℕ) → k ≤ length path → from ≡ (k, e) → to ≡ (k, f) → ChartBound b (chart_at b path k) e f w r → PathBound b path from to w r
  across_link : (k : ℕ) (x y : Side) → k < length path → from ≡ on_side k x → to ≡ on_side k y → LinkBound b (link_at b path k) (chart_at b path k) (chart_at b path (suc k)) x y w r → PathBound b path from to w r

-- some rule asks for the bound
abbrev pub AskedOfChart : BookValue → ChartValue → ℕ → ℕ → ℤ → Type 0
AskedOfChart b c from to w = (r : Rule) × ChartBound b c from to w r

abbrev pub AskedOfLink : BookValue → Link → ChartValue → ChartValue → Side → Side → ℤ → Type 0
AskedOfLink b l c c' from to w = (r : Rule) × LinkBound b l c c' from to w r

abbrev pub AskedOfPath : BookValue → List ℕ → PathEvent → PathEvent → ℤ → Type 0
AskedOfPath b path from to w = (r : Rule) × PathBound b path from to w r

-- the dates of the events of two charts, or of a path
abbrev pub side_dates : (ℕ → ℕ) → (ℕ → ℕ) → Side → ℕ
side_dates d d' (left e) = d e
side_dates d d' (entered e) = d' e

abbrev pub path_dates : (ℕ → ℕ → ℕ) → PathEvent → ℕ
path_dates d x = d x.0 x.1

-- the dates d keep the bounds B: where there is one of w ticks from x to y, the date of y minus that of x is at most w
abbrev pub Keeps : {X : Type 0} → (X → X → ℤ → Type 0) → (X → ℕ) → Type 0
Keeps {X} B d = (x y : X) (w : ℤ) → B x y w → difference (d y) (d x) ≤ℤ w

-- a walk of one or more bounds, and the sum of their ticks
pub data BoundWalk {X : Type 0} (B : X → X → ℤ → Type 0) : X → X → ℤ → Type 0 where
  one : {x y : X} {w : ℤ} → B x y w → BoundWalk B x y w
  more : {x y z : X} {u v w : ℤ} → B x y u → BoundWalk B y z v → w ≡ u +ℤ v → BoundWalk B x z w

-- a bad cycle: a walk back to its beginning with a sum below 0
pub record BadCycle {X : Type 0} (B : X → X → ℤ → Type 0) : Type 0 where
  pub place : X
  pub sum : ℤ
  pub walk : BoundWalk B place place sum
  pub below : sum <ℤ pos 0
