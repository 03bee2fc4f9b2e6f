-- One step: from the stations' last events, which keep a profile, over a link into a chart.
use Rattle.std.specs.Prelude.{◌≡◌, ℕ, ◌<◌, length, ℤ, ◌≤ℤ◌}
use Rattle.bookformat.specs.declared.value.Link.{Link}
use Rattle.bookformat.specs.Values.{ChartValue, BookValue}
use Rattle.bookformat.specs.Rules.{chart}
use Rattle.paths.specs.Charts.{First}
use Rattle.paths.specs.Paths.{link}
use Rattle.paths.specs.Datings.{Within, interval, KeepsChart}
use Rattle.paths.specs.Profiles.{difference, Largest}

-- the chart that a link enters
abbrev pub enters : BookValue → Link → ChartValue
enters b l = chart b l.to

-- y are dates of the stations' last events before the link l, and x dates of the chart that it enters
pub record Step (b : BookValue) (l : Link) (P : ℕ → ℕ → ℤ) (y x : ℕ → ℕ) : Type 0 where
  -- the last dates keep the profile P, whether or not some path has it
  pub profile : (p q : ℕ) → p < b.stations → q < b.stations → difference (y p) (y q) ≤ℤ P p q
  -- the link's intervals hold between them and the stations' first events
  pub intervals : (p f : ℕ) → p < b.stations → First b (enters b l) p f → Within (interval l p) (y p) (x f)
  -- the chart's own rules hold
  pub chart : KeepsChart b (enters b l) x

-- the solutions of the step
abbrev pub Solution : BookValue → Link → (ℕ → ℕ → ℤ) → Type 0
Solution b l P = (y : ℕ → ℕ) × (x : ℕ → ℕ) × Step b l P y x

-- the profile after the step: the largest values over all its solutions
abbrev pub StepProfile : BookValue → Link → (ℕ → ℕ → ℤ) → (ℕ → ℕ → ℤ) → Type 0
StepProfile b l P Q = Largest b (enters b l) (Solution b l P) (λ s. s.1) Q

-- from the chart with number c and the profile P one can go on by link l
pub record Goes (b : BookValue) (c : ℕ) (P : ℕ → ℕ → ℤ) (l : ℕ) : Type 0 where
  pub exists : l < length b.links
  pub begins : (link b l).from ≡ c
  pub solution : Solution b (link b l) P

-- and that leads to the chart with number c' and the profile Q
pub record Leads (b : BookValue) (c : ℕ) (P : ℕ → ℕ → ℤ) (l c' : ℕ) (Q : ℕ → ℕ → ℤ) : Type 0 where
  pub goes : Goes b c P l
  pub chart : (link b l).to ≡ c'
  pub profile : StepProfile b (link b l) P Q
