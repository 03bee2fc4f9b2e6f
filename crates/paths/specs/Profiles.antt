-- Profiles and classes of paths.
use Rattle.std.specs.Prelude.{◌≡◌, ℕ, ◌<◌, List, length, ℤ, pos, ◌+ℤ◌, ◌-ℤ◌, ◌≤ℤ◌}
use Rattle.bookformat.specs.Values.{ChartValue, BookValue}
use Rattle.paths.specs.Charts.{Last}
use Rattle.paths.specs.Paths.{last_number, last_chart, Path}
use Rattle.paths.specs.Datings.{KeepsChart, Datable}

-- the date x minus the date y
abbrev pub difference : ℕ → ℕ → ℤ
difference x y = pos x -ℤ pos y

-- e and f are the last events of stations p and q
pub record Lasts (b : BookValue) (c : ChartValue) (p q e f : ℕ) : Type 0 where
  pub p_exists : p < b.stations
  pub q_exists : q < b.stations
  pub p_last : Last b c p e
  pub q_last : Last b c q f

-- P p q is the largest value of p's last date minus q's in chart c over all of S, whose members give dates to the events of c: it bounds each, and one reaches it
pub record Largest (b : BookValue) (c : ChartValue) (S : Type 0) (dates : S → ℕ → ℕ) (P : ℕ → ℕ → ℤ) : Type 0 where
  pub bounds : (p q e f : ℕ) → Lasts b c p q e f → (s : S) → difference (dates s e) (dates s f) ≤ℤ P p q
  pub reached : (p q e f : ℕ) → Lasts b c p q e f → (s : S) × (difference (dates s e) (dates s f) ≡ P p q)

-- the profile of a path: the largest values over all its datings, of the events of its last chart
abbrev pub Profile : BookValue → List ℕ → (ℕ → ℕ → ℤ) → Type 0
Profile b path P = Largest b (last_chart b path) (Datable b path) (λ s. s.0 (length path)) P

-- the profile of a chart that stands alone
abbrev pub ChartProfile : BookValue → ChartValue → (ℕ → ℕ → ℤ) → Type 0
ChartProfile b c P = Largest b c ((d : ℕ → ℕ) × KeepsChart b c d) (λ s. s.0) P

-- the path is datable and in the class of the chart with this number and the profile P
pub record InClass (b : BookValue) (path : List ℕ) (c : ℕ) (P : ℕ → ℕ → ℤ) : Type 0 where
  pub is_path : Path b path
  pub datable : Datable b path
  pub ends : last_number b path ≡ c
  pub profile : Profile b path P

-- two datable paths are in one class: they end in the same chart with equal profiles
pub record SameClass (b : BookValue) (path other : List ℕ) : Type 0 where
  pub datable : Datable b path
  pub other_datable : Datable b other
  pub same_chart : last_number b path ≡ last_number b other
  pub same_profile : (P : ℕ → ℕ → ℤ) × Profile b path P × Profile b other P

-- a whole number between minus far and far
pub record WithinFar (b : BookValue) (w : ℤ) : Type 0 where
  pub most : w ≤ℤ pos b.far
  pub least : pos 0 ≤ℤ (w +ℤ pos b.far)
