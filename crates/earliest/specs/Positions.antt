-- The charts and links along a path, with their dates in one list.
use Rattle.std.specs.Prelude.{◌≡◌, ℕ, suc, ◌+◌, ◌<◌, ◌≤◌, List, length}
use Rattle.bookformat.specs.Values.{BookValue}
use Rattle.paths.specs.Paths.{link_at, chart_at}
use Rattle.paths.specs.Datings.{Dating}
use Rattle.routes.specs.declared.stop.Stop.{Stop}
use Rattle.paths.specs.Listing.{events_before, events_of}
use Rattle.routes.specs.Stops.{At}
use Rattle.earliest.specs.Raising.{date_at, Below}
use Rattle.earliest.specs.Demands.{ChartKept, LinkKept}

-- the rules of the chart at position k, and of the link that leaves it
abbrev pub ChartAt : BookValue → List ℕ → ℕ → (ℕ → ℕ) → Type 0
ChartAt b path k z = ChartKept b (chart_at b path k) (events_before b path k) z

abbrev pub LinkAt : BookValue → List ℕ → ℕ → (ℕ → ℕ) → Type 0
LinkAt b path k z = LinkKept b (link_at b path k) (chart_at b path k) (events_before b path k) (chart_at b path (suc k)) (events_before b path (suc k)) z

-- those of the link that leaves position k, and of the chart that it enters or leaves
abbrev pub Entering : BookValue → List ℕ → ℕ → (ℕ → ℕ) → Type 0
Entering b path k z = LinkAt b path k z × ChartAt b path (suc k) z

abbrev pub Leaving : BookValue → List ℕ → ℕ → (ℕ → ℕ) → Type 0
Leaving b path k z = LinkAt b path k z × ChartAt b path k z

-- the stops are those of position k and of the next, in a list of so many dates
pub record Crossing (b : BookValue) (path : List ℕ) (k : ℕ) (left entered : Stop) (room : ℕ) : Type 0 where
  pub inside : k < length path
  pub left_at : At b path k left
  pub entered_at : At b path (k + 1) entered
  pub long : room ≡ events_of b path

-- all rules
abbrev pub PathKept : BookValue → List ℕ → (ℕ → ℕ) → Type 0
PathKept b path z = Dating b path (λ k e. z (events_before b path k + e))

-- dates above those in the list keep all rules, and fit 32 bits with room for any interval's end
pub record Ceiling (b : BookValue) (path l : List ℕ) : Type 0 where
  pub dates : ℕ → ℕ
  pub kept : PathKept b path dates
  pub above : Below l dates
  pub small : (k : ℕ) → k < length l → dates k ≤ 81910000

-- no dates that keep all rules are below those in the list, which do
abbrev pub Least : BookValue → List ℕ → List ℕ → Type 0
Least b path l = (z : ℕ → ℕ) → PathKept b path z → Below l z

pub record Settled (b : BookValue) (path l : List ℕ) : Type 0 where
  pub kept : PathKept b path (date_at l)
  pub least : Least b path l
