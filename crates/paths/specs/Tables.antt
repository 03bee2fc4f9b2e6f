-- Tables of weights, closed tables, and the tables of a chart and of a step.
use Rattle.std.specs.Prelude.{◌≡◌, ℕ, ◌+◌, ◌<◌, ◌↔◌, ℤ, pos, ◌≤ℤ◌, Some, None, Option}
use Rattle.std.specs.Int.{int_min}
use Rattle.bookformat.specs.declared.value.Link.{Link}
use Rattle.bookformat.specs.Values.{ChartValue, BookValue}
use Rattle.paths.specs.Charts.{event_count}
use Rattle.paths.specs.Datings.{KeepsChart}
use Rattle.paths.specs.Profiles.{Lasts, Largest, WithinFar}
use Rattle.paths.specs.Bounds.{Keeps, BoundWalk, BadCycle}
use Rattle.paths.specs.Steps.{enters, Step}

-- a table has a weight from each of its places to each: so many ticks, or none
abbrev pub Table : Type 0
Table = ℕ → ℕ → Option ℤ

-- the entries of a table of n places as bounds
abbrev pub Entry : ℕ → Table → ℕ → ℕ → ℤ → Type 0
Entry n A i j w = (i < n) × (j < n) × (A i j ≡ Some w)

-- the entry of D from i to j is the least sum of all walks in A, or none where there is no walk
pub record LeastWalk (n : ℕ) (A D : Table) (i j : ℕ) : Type 0 where
  pub walked : (w : ℤ) → D i j ≡ Some w → BoundWalk (Entry n A) i j w
  pub least : (w : ℤ) → BoundWalk (Entry n A) i j w → (v : ℤ) × (D i j ≡ Some v) × (v ≤ℤ w)

-- D is the closed table of A: A has no bad cycle, and the entries of D are the least sums of its walks
pub record ShortestWalks (n : ℕ) (A D : Table) : Type 0 where
  pub no_bad_cycle : BadCycle (Entry n A) → ⊥
  pub entries : (i j : ℕ) → i < n → j < n → LeastWalk n A D i j

-- the lesser of a weight and w ticks
abbrev pub lesser : Option ℤ → ℤ → Option ℤ
lesser (Some u) w = Some (int_min u w)
lesser None w = Some w

-- A' is A with its entry from i to j tightened to w ticks
pub record Tightens (n : ℕ) (A : Table) (i j : ℕ) (w : ℤ) (A' : Table) : Type 0 where
  pub here : A' i j ≡ lesser (A i j) w
  pub elsewhere : (k m : ℕ) → k < n → m < n → ((k ≡ i) × (m ≡ j) → ⊥) → A' k m ≡ A k m

-- each place is at most 0 ticks from itself
abbrev pub Own : ℕ → Table → Type 0
Own n A = (i : ℕ) → i < n → (w : ℤ) × (A i i ≡ Some w) × (w ≤ℤ pos 0)

-- the table A of n places says exactly what K asks of dates: those that keep its entries are those of K
pub record Says (n : ℕ) (K : (ℕ → ℕ) → Type 0) (A : Table) : Type 0 where
  pub own : Own n A
  pub exact : (z : ℕ → ℕ) → K z ↔ Keeps (Entry n A) z

-- the table of a chart alone: place e for its event e
abbrev pub SaysChart : BookValue → ChartValue → Table → Type 0
SaysChart b c A = Says (event_count b c) (KeepsChart b c) A

-- how many places the table of a step has: place p for the last event of station p before the link, then, from place `stations` on, one for each event of the chart that is entered
abbrev pub step_places : BookValue → Link → ℕ
step_places b l = b.stations + event_count b (enters b l)

abbrev pub SaysStep : BookValue → Link → (ℕ → ℕ → ℤ) → Table → Type 0
SaysStep b l P A = Says (step_places b l) (λ z. Step b l P z (λ e. z (b.stations + e))) A

-- Q is what D has between the stations' last events, where event e of the chart c stands at the place first + e: the entry from q's last event to p's limits p's date minus q's
abbrev pub Reads : BookValue → ChartValue → ℕ → Table → (ℕ → ℕ → ℤ) → Type 0
Reads b c first D Q = (p q e f : ℕ) → Lasts b c p q e f → D (first + f) (first + e) ≡ Some (Q p q)

-- What a table of n places decides about the solutions S, which give dates to the events of the chart c
pub record TableDecides (b : BookValue) (c : ChartValue) (S : Type 0) (dates : S → ℕ → ℕ) (n first : ℕ) (A : Table) : Type 0 where
  -- a bad cycle: there is no solution
  pub unsolvable : BadCycle (Entry n A) → S → ⊥
  -- closed: there is one
  pub solvable : (D : Table) → ShortestWalks n A D → S
  -- every entry of the closed table between last events is a number within far, and together they are the profile
  pub readable : (D : Table) → ShortestWalks n A D → (p q e f : ℕ) → Lasts b c p q e f → (w : ℤ) × (D (first + f) (first + e) ≡ Some w) × WithinFar b w
  pub profile : (D : Table) → ShortestWalks n A D → (Q : ℕ → ℕ → ℤ) → Reads b c first D Q → Largest b c S dates Q
