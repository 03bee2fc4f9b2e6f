-- A book as a value: plain lists and records.
use Rattle.std.specs.Prelude.{ℕ, Bool, List, map}
use Rattle.bookformat.specs.declared.value.Event.{Event}
use Rattle.bookformat.specs.declared.value.Constraint.{Constraint}
use Rattle.bookformat.specs.declared.value.Link.{Link}
use Rattle.bookformat.specs.declared.value.Chart.{Chart}

-- a chart: its working events by number, its constraints in listing order, and whether it is marked final
pub record ChartValue : Type 0 where
  pub events : List Event
  pub constraints : List Constraint
  pub final : Bool

-- a book: how many stations, the number of the first chart, the near and the far bound, the charts and the links by number
pub record BookValue : Type 0 where
  pub stations : ℕ
  pub first : ℕ
  pub near : ℕ
  pub far : ℕ
  pub charts : List ChartValue
  pub links : List Link

abbrev pub chart_value : Chart → ChartValue
chart_value c = record { events = c.events.items; constraints = c.constraints.items; final = c.is_final }

-- the book with these fields
abbrev pub value_of : ℕ → ℕ → ℕ → ℕ → List Chart → List Link → BookValue
value_of stations first near far charts links = record { stations = stations; first = first; near = near; far = far; charts = map chart_value charts; links = links }
