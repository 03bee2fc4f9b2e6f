-- Where the records of a book lie and what they say. A byte past the end counts as 0, so that every reading is defined.
use Rattle.std.specs.Prelude.{ℕ, zero, suc, ◌+◌, ◌*◌, cond, List, map, Some, None, Option, ◌==◌, slice_index}
use Rattle.std.specs.List.{range_with_len}
use Rattle.bookformat.specs.declared.value.Kind.{Kind}
use Rattle.bookformat.specs.declared.value.Kind.TheVariants.{Send, Receive}
use Rattle.bookformat.specs.declared.value.Event.{Event}
use Rattle.bookformat.specs.declared.value.Interval.{Interval}
use Rattle.bookformat.specs.declared.value.Constraint.{Constraint}
use Rattle.bookformat.specs.declared.value.Link.{Link}
use Rattle.bookformat.specs.Values.{ChartValue, BookValue}

abbrev pub byte : List ℕ → ℕ → ℕ
byte b i = slice_index b i

-- 16 bits, the high byte first
abbrev pub word : List ℕ → ℕ → ℕ
word b i = byte b i * 256 + byte b (i + 1)

abbrev pub kind_of : ℕ → Kind
kind_of k = cond (k == 0x21) Send Receive

abbrev pub end_of : ℕ → Option ℕ
end_of n = cond (n == 0xffff) None (Some n)

abbrev pub interval_at : List ℕ → ℕ → Interval
interval_at b i = record { lower = word b i; upper = end_of (word b (i + 2)) }

abbrev pub event_at : List ℕ → ℕ → Event
event_at b i = record { station = byte b i; kind = kind_of (byte b (i + 1)); pair = byte b (i + 2) }

abbrev pub constraint_at : List ℕ → ℕ → Constraint
constraint_at b i = record { first = byte b i; second = byte b (i + 1); interval = interval_at b (i + 2) }

-- n records of a width, from a place on
abbrev pub records : {X : Type 0} → (ℕ → X) → ℕ → ℕ → ℕ → List X
records read width place n = map (λ k. read (place + width * k)) (range_with_len 0 n)

abbrev pub link_at : List ℕ → ℕ → Link
link_at b i = record { from = byte b i; to = byte b (i + 1); intervals = records (interval_at b) 4 (i + 2) 8 }

-- a chart whose head is at i: the events follow the head, and the constraints the events
abbrev pub events_at : List ℕ → ℕ → List Event
events_at b i = records (event_at b) 3 (i + 3) (byte b i)

abbrev pub constraints_place : List ℕ → ℕ → ℕ
constraints_place b i = i + 3 + 3 * byte b i

abbrev pub chart_at : List ℕ → ℕ → ChartValue
chart_at b i = record { events = events_at b i; constraints = records (constraint_at b) 6 (constraints_place b i) (byte b (i + 1)); final = (byte b (i + 2) == 1) }

-- the place of the head of chart k: the first follows the header, each other the chart before it
abbrev pub chart_place : List ℕ → ℕ → ℕ
chart_place b zero = 13
chart_place b (suc k) = constraints_place b (chart_place b k) + 6 * byte b (chart_place b k + 1)

abbrev pub charts_at : List ℕ → List ChartValue
charts_at b = map (λ k. chart_at b (chart_place b k)) (range_with_len 0 (byte b 6))

abbrev pub links_place : List ℕ → ℕ
links_place b = chart_place b (byte b 6)

abbrev pub book_at : List ℕ → BookValue
book_at b = record { stations = byte b 5; first = byte b 7; near = word b 9; far = word b 11; charts = charts_at b; links = records (link_at b) 34 (links_place b) (byte b 8) }
