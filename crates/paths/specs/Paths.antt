-- Paths through a book.
use Rattle.std.specs.Prelude.{◌≡◌, ℕ, zero, suc, ◌<◌, true, List, length, slice_index, slice_index_or}
use Rattle.bookformat.specs.declared.value.Link.{Link}
use Rattle.bookformat.specs.Values.{ChartValue, BookValue}
use Rattle.bookformat.specs.Rules.{no_link, chart}

-- the link with a number
abbrev pub link : BookValue → ℕ → Link
link b l = slice_index_or b.links l no_link

-- the link with a number exists, and begins at the chart with a number
abbrev pub Leaves : BookValue → ℕ → ℕ → Type 0
Leaves b at l = (l < length b.links) × ((link b l).from ≡ at)

-- A path is the list of its link numbers. The link that leaves a position
abbrev pub link_at : BookValue → List ℕ → ℕ → Link
link_at b path k = link b (slice_index path k)

-- the number of the chart at a position: the first chart at 0, then the chart to which each link leads
abbrev pub chart_number : BookValue → List ℕ → ℕ → ℕ
chart_number b path zero = b.first
chart_number b path (suc k) = (link_at b path k).to

abbrev pub chart_at : BookValue → List ℕ → ℕ → ChartValue
chart_at b path k = chart b (chart_number b path k)

-- the number of the chart where the path stands, and that chart
abbrev pub last_number : BookValue → List ℕ → ℕ
last_number b path = chart_number b path (length path)

abbrev pub last_chart : BookValue → List ℕ → ChartValue
last_chart b path = chart b (last_number b path)

-- each link exists, and begins at the chart where the path stands
pub record Path (b : BookValue) (path : List ℕ) : Type 0 where
  pub exists : (k : ℕ) → k < length path → slice_index path k < length b.links
  pub begins : (k : ℕ) → k < length path → (link_at b path k).from ≡ chart_number b path k

-- its last chart is marked final
abbrev pub Final : BookValue → List ℕ → Type 0
Final b path = (last_chart b path).final ≡ true
