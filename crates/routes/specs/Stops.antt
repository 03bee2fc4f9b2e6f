-- The stops of a path, and where it stands.
use Rattle.std.specs.Prelude.{◌≡◌, ℕ, ◌<◌, List, length, take, drop, slice_index}
use Rattle.bookformat.specs.Values.{BookValue}
use Rattle.bookformat.specs.Rules.{chart}
use Rattle.paths.specs.Paths.{Leaves, chart_number}
use Rattle.paths.specs.Listing.{events_before}
use Rattle.fullchart.specs.Finds.{IsFull}
use Rattle.routes.specs.declared.stop.Stop.{Stop}

-- the first k links of the list are a path, which stands at the chart with a number
pub record StandsAt (b : BookValue) (path : List ℕ) (k at : ℕ) : Type 0 where
  pub chart : at ≡ chart_number b path k
  pub goes_on : (j : ℕ) → j < k → Leaves b (chart_number b path j) (slice_index path j)

-- the stop is that of position k
pub record At (b : BookValue) (path : List ℕ) (k : ℕ) (s : Stop) : Type 0 where
  pub number : s.number ≡ chart_number b path k
  pub exists : s.number < length b.charts
  pub full : IsFull b (chart b s.number) s.full
  pub first : s.first ≡ events_before b path k

-- its part of the dates of the path
abbrev pub dates_of : Stop → List ℕ → List ℕ
dates_of s dates = take (length s.full.stations.items) (drop s.first dates)
