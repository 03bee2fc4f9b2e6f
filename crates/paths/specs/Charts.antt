-- The full chart: the working events, and an event for each silent station.
use Rattle.std.specs.Prelude.{◌≡◌, ℕ, ◌<◌, ◌≤◌, List, ◌++◌, map, length, filter, slice_index_or}
use Rattle.std.specs.List.{range_with_len}
use Rattle.bookformat.specs.declared.value.Event.{Event}
use Rattle.bookformat.specs.Values.{ChartValue, BookValue}
use Rattle.bookformat.specs.Reading.{is_silent}

-- event e is a working one
abbrev pub Working : ChartValue → ℕ → Type 0
Working c e = e < length c.events

-- the stations of the full chart's events, by event number: the working events in listing order, then one event for each silent station, in station order
abbrev pub event_stations : BookValue → ChartValue → List ℕ
event_stations b c = map (λ (e : Event). e.station) c.events ++ filter (is_silent c.events) (range_with_len 0 b.stations)

-- how many events the full chart has
abbrev pub event_count : BookValue → ChartValue → ℕ
event_count b c = length (event_stations b c)

-- event e of the full chart is on station p
pub record On (b : BookValue) (c : ChartValue) (p e : ℕ) : Type 0 where
  pub exists : e < event_count b c
  pub station : slice_index_or (event_stations b c) e 0 ≡ p

-- e is the first event of station p
pub record First (b : BookValue) (c : ChartValue) (p e : ℕ) : Type 0 where
  pub on : On b c p e
  pub first : (f : ℕ) → On b c p f → e ≤ f

-- e is the last event of station p
pub record Last (b : BookValue) (c : ChartValue) (p e : ℕ) : Type 0 where
  pub on : On b c p e
  pub last : (f : ℕ) → On b c p f → f ≤ e
