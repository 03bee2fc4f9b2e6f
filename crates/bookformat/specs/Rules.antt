-- The rules of a good book.
use Rattle.std.specs.Prelude.{◌≡◌, ℕ, ◌%◌, ◌<◌, ◌≤◌, false, ◌⊎◌, List, [], length, get_or, Some, None, ◌≢◌, slice_index_or}
use Rattle.bookformat.specs.declared.value.Kind.TheVariants.{Send}
use Rattle.bookformat.specs.declared.value.Event.{Event}
use Rattle.bookformat.specs.declared.value.Interval.{Interval}
use Rattle.bookformat.specs.declared.value.Constraint.{Constraint}
use Rattle.bookformat.specs.declared.value.Link.{Link}
use Rattle.bookformat.specs.Values.{ChartValue, BookValue}

-- the interval 0, none
abbrev pub unbounded : Interval
unbounded = record { lower = 0; upper = None }

-- what a number that names nothing stands for
abbrev pub no_event : Event
no_event = record { station = 0; kind = Send; pair = 0 }

abbrev pub no_constraint : Constraint
no_constraint = record { first = 0; second = 0; interval = unbounded }

abbrev pub no_chart : ChartValue
no_chart = record { events = []; constraints = []; final = false }

abbrev pub no_link : Link
no_link = record { from = 0; to = 0; intervals = [] }

-- the event with a number
abbrev pub event : List Event → ℕ → Event
event es e = slice_index_or es e no_event

abbrev pub chart : BookValue → ℕ → ChartValue
chart b c = slice_index_or b.charts c no_chart

abbrev pub link : BookValue → ℕ → Link
link b l = slice_index_or b.links l no_link

-- event e is directly before f: f is listed later on its station, or is its receive
pub data DirectlyBefore (es : List Event) (e f : ℕ) : Type 0 where
  listed_later : e < f → f < length es → (event es e).station ≡ (event es f).station → DirectlyBefore es e f
  its_receive : e < length es → (event es e).kind ≡ Send → (event es e).pair ≡ f → DirectlyBefore es e f

-- event e comes before f in the order of the chart: by one or more steps of directly before
pub data ComesBefore (es : List Event) : ℕ → ℕ → Type 0 where
  directly : {e f : ℕ} → DirectlyBefore es e f → ComesBefore es e f
  onward : {e f : ℕ} (g : ℕ) → DirectlyBefore es e g → ComesBefore es g f → ComesBefore es e f

-- no event comes before itself
abbrev pub Acyclic : List Event → Type 0
Acyclic es = (e : ℕ) → ComesBefore es e e → ⊥

-- the pair of event e is an event of the other kind on another station, whose pair is e
pub record Paired (es : List Event) (e : ℕ) : Type 0 where
  pub exists : (event es e).pair < length es
  pub back : (event es (event es e).pair).pair ≡ e
  pub other_kind : (event es (event es e).pair).kind ≡ (event es e).kind → ⊥
  pub other_station : (event es (event es e).pair).station ≡ (event es e).station → ⊥

-- no end above 10,000, and the lower end not above the upper
pub record Proper (i : Interval) : Type 0 where
  pub lower_most : i.lower ≤ 10000
  pub upper_most : (u : ℕ) → i.upper ≡ Some u → u ≤ 10000
  pub in_order : (u : ℕ) → i.upper ≡ Some u → i.lower ≤ u

-- a chart of a book with so many stations
pub record GoodChart (stations : ℕ) (c : ChartValue) : Type 0 where
  pub events_least : 2 ≤ length c.events
  pub events_most : length c.events ≤ 40
  pub events_even : length c.events % 2 ≡ 0
  pub constraints_most : length c.constraints ≤ 64
  pub on_station : (e : ℕ) → e < length c.events → (event c.events e).station < stations
  pub paired : (e : ℕ) → e < length c.events → Paired c.events e
  pub ordered : (k : ℕ) → k < length c.constraints → DirectlyBefore c.events (get_or c.constraints k no_constraint).first (get_or c.constraints k no_constraint).second
  pub proper : (k : ℕ) → k < length c.constraints → Proper (get_or c.constraints k no_constraint).interval
  pub acyclic : Acyclic c.events

-- no event is on station p
abbrev pub Silent : List Event → ℕ → Type 0
Silent es p = (e : ℕ) → e < length es → (event es e).station ≢ p

-- station p takes no part in a link: it is unused, or silent in either chart
abbrev pub Apart : BookValue → Link → ℕ → Type 0
Apart b l p = (b.stations ≤ p) ⊎ (Silent (chart b l.from).events p ⊎ Silent (chart b l.to).events p)

pub record GoodLink (b : BookValue) (l : Link) : Type 0 where
  pub from_exists : l.from < length b.charts
  pub to_exists : l.to < length b.charts
  pub eight : length l.intervals ≡ 8
  pub proper : (p : ℕ) → p < 8 → Proper (slice_index_or l.intervals p unbounded)
  pub not_due : (p : ℕ) → p < 8 → Apart b l p → slice_index_or l.intervals p unbounded ≡ unbounded

-- a book that keeps every rule
pub record GoodBook (b : BookValue) : Type 0 where
  pub stations_least : 2 ≤ b.stations
  pub stations_most : b.stations ≤ 8
  pub charts_least : 1 ≤ length b.charts
  pub charts_most : length b.charts ≤ 32
  pub first_exists : b.first < length b.charts
  pub links_most : length b.links ≤ 128
  pub far_most : b.far ≤ 10000
  pub near_far : b.near ≤ b.far
  pub charts : (c : ℕ) → c < length b.charts → GoodChart b.stations (chart b c)
  pub links : (l : ℕ) → l < length b.links → GoodLink b (slice_index_or b.links l no_link)
