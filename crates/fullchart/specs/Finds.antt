-- The first and the last place of a station in a list of stations.
use Rattle.std.specs.Prelude.{◌≡◌, ℕ, ◌+◌, ◌<◌, ◌≤◌, List, ◌++◌, map, length, take, Some, None, filter, Option, ◌≢◌, slice_index}
use Rattle.std.specs.List.{range_with_len}
use Rattle.bookformat.specs.Bounded.{Bounded, bounded_len}
use Rattle.bookformat.specs.declared.value.Event.{Event}
use Rattle.bookformat.specs.Reading.{is_silent}
use Rattle.bookformat.specs.Values.{ChartValue, BookValue}
use Rattle.paths.specs.Charts.{event_stations}
use Rattle.fullchart.specs.declared.FullChart.{FullChart}

-- the station stands at no place below n
abbrev pub NotBelow : List ℕ → ℕ → ℕ → Type 0
NotBelow l p n = (k : ℕ) → k < n → slice_index l k ≢ p

abbrev pub FirstOn : List ℕ → ℕ → Option ℕ → Type 0
FirstOn l p None = NotBelow l p (length l)
FirstOn l p (Some e) = (e < length l) × (slice_index l e ≡ p) × NotBelow l p e

-- the last place below n
abbrev pub LastBelow : List ℕ → ℕ → ℕ → Option ℕ → Type 0
LastBelow l p n None = NotBelow l p n
LastBelow l p n (Some e) = (e < n) × (slice_index l e ≡ p) × ((k : ℕ) → k < n → slice_index l k ≡ p → k ≤ e)

abbrev pub LastOn : List ℕ → ℕ → Option ℕ → Type 0
LastOn l p r = LastBelow l p (length l) r

-- what the full chart of a book's chart holds
pub record IsFull (b : BookValue) (c : ChartValue) (f : FullChart) : Type 0 where
  pub stations : f.stations.items ≡ event_stations b c
  pub working : f.working ≡ length c.events

-- the stations of the first n events
pub record WorkingHeld (es : List Event) (n : ℕ) (s : Bounded ℕ 48) : Type 0 where
  pub held_are : s.items ≡ map (λ (e : Event). e.station) (take n es)
  pub count : bounded_len s ≡ n

-- and after them the silent stations below a number
pub record SilentAdded (s t : Bounded ℕ 48) (es : List Event) (n : ℕ) : Type 0 where
  pub held_are : t.items ≡ s.items ++ filter (is_silent es) (range_with_len 0 n)
  pub count : bounded_len t ≤ bounded_len s + n
