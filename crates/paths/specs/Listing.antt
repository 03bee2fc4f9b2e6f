-- The dates of a path as one list: position after position, and within a position by event number.
use Rattle.std.specs.Prelude.{ℕ, zero, suc, ◌+◌, List, length, slice_index}
use Rattle.bookformat.specs.Values.{BookValue}
use Rattle.paths.specs.Charts.{event_count}
use Rattle.paths.specs.Paths.{chart_at}

-- how many events the charts before position k have, silent ones counted
abbrev pub events_before : BookValue → List ℕ → ℕ → ℕ
events_before b path zero = 0
events_before b path (suc k) = events_before b path k + event_count b (chart_at b path k)

-- how many events the whole path has
abbrev pub events_of : BookValue → List ℕ → ℕ
events_of b path = events_before b path (suc (length path))

-- the date of event e of the chart at position k, in a list of dates
abbrev pub written : BookValue → List ℕ → List ℕ → ℕ → ℕ → ℕ
written b path dates k e = slice_index dates (events_before b path k + e)
