-- What is answered of a chart alone, and of a step.
use Rattle.std.specs.Prelude.{◌≡◌, ℕ, ◌<◌, ◌≤◌, ◌⊎◌, List, ℤ, pos, Some, None, Option}
use Rattle.bookformat.specs.declared.value.Link.{Link}
use Rattle.bookformat.specs.Values.{ChartValue, BookValue}
use Rattle.paths.specs.Datings.{KeepsChart}
use Rattle.paths.specs.Profiles.{ChartProfile, WithinFar}
use Rattle.paths.specs.Steps.{Solution, StepProfile}
use Rattle.profile.specs.Ranges.{InRange}
use Rattle.steps.specs.Parts.{entries_of}

-- each entry is within far, and those of unused stations are 0
pub record Tidy (b : BookValue) (a : List ℤ) : Type 0 where
  pub within : (p q : ℕ) → p < 8 → q < 8 → WithinFar b (entries_of a p q)
  pub unused : (p q : ℕ) → p < 8 → q < 8 → (b.stations ≤ p) ⊎ (b.stations ≤ q) → entries_of a p q ≡ pos 0
  pub in_range : InRange a

-- the profile of the chart alone, or none: then it has no dating
abbrev pub ChartAnswer : BookValue → ChartValue → Option (List ℤ) → Type 0
ChartAnswer b c None = (d : ℕ → ℕ) → KeepsChart b c d → ⊥
ChartAnswer b c (Some a) = ChartProfile b c (entries_of a) × Tidy b a

-- the profile after the step from the profile P over the link l, or none: then the step has no solution
abbrev pub StepAnswer : BookValue → Link → (ℕ → ℕ → ℤ) → Option (List ℤ) → Type 0
StepAnswer b l P None = Solution b l P → ⊥
StepAnswer b l P (Some a) = StepProfile b l P (entries_of a) × Tidy b a
