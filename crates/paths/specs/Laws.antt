-- What is proved of paths and datings.
use Rattle.std.specs.Prelude.{◌≡◌, ℕ, ◌+◌, ◌*◌, ◌<◌, ◌≤◌, min, Bool, true, ◌↔◌, List, [], ◌∷◌, ◌++◌, length, ℤ, pos, ◌≤ℤ◌, None}
use Rattle.bookformat.specs.declared.value.Link.{Link}
use Rattle.bookformat.specs.Values.{ChartValue, BookValue}
use Rattle.bookformat.specs.Rules.{chart, GoodBook}
use Rattle.paths.specs.Charts.{Working, event_count, First, Last}
use Rattle.paths.specs.Paths.{link, last_number, Path}
use Rattle.paths.specs.Datings.{drift, SilentPair, KeepsChart, KeepsLink, Dating, Datable, EventOf, Earliest}
use Rattle.paths.specs.Profiles.{difference, Profile, ChartProfile, InClass, SameClass, WithinFar}
use Rattle.paths.specs.Bounds.{PathEvent, AskedOfChart, AskedOfLink, AskedOfPath, side_dates, path_dates, Keeps, BoundWalk, BadCycle}
use Rattle.paths.specs.Steps.{enters, Solution, StepProfile, Goes, Leads}
use Rattle.paths.specs.Tables.{Table, Entry, ShortestWalks, Tightens, Own, SaysChart, SaysStep, step_places, TableDecides}

-- Rules and bounds

-- the drift bound is near for two working events, and far if one or both are silent
pub record DriftLaw : Type 0 where
  pub near : (b : BookValue) (c : ChartValue) (e f : ℕ) → Working c e → Working c f → drift b c e f ≡ b.near
  pub far : (b : BookValue) (c : ChartValue) (e f : ℕ) → SilentPair b c e f → drift b c e f ≡ b.far

-- the rules of a chart, of a link and of a whole dating are kept exactly by what keeps all their bounds
pub record BoundsLaw : Type 0 where
  pub chart : (b : BookValue) (c : ChartValue) (d : ℕ → ℕ) → KeepsChart b c d ↔ Keeps (AskedOfChart b c) d
  pub link : (b : BookValue) (l : Link) (c c' : ChartValue) (d d' : ℕ → ℕ) → KeepsLink b l c c' d d' ↔ Keeps (AskedOfLink b l c c') (side_dates d d')
  pub dating : (b : BookValue) (path : List ℕ) (d : ℕ → ℕ → ℕ) → Dating b path d ↔ Keeps (AskedOfPath b path) (path_dates d)

-- a walk of bounds limits the difference of the dates at its ends
abbrev pub WalkLaw : Type 0
WalkLaw = (b : BookValue) (path : List ℕ) (d : ℕ → ℕ → ℕ) → Dating b path d → (x y : PathEvent) (w : ℤ) → BoundWalk (AskedOfPath b path) x y w → difference (path_dates d y) (path_dates d x) ≤ℤ w

-- a cycle of bounds with a sum below 0 leaves no dating
abbrev pub CycleLaw : Type 0
CycleLaw = (b : BookValue) (path : List ℕ) → BadCycle (AskedOfPath b path) → Datable b path → ⊥

-- Events

-- each station has a first and a last event in a full chart, and only one
pub record EventsLaw : Type 0 where
  pub first : (b : BookValue) (c : ChartValue) (p : ℕ) → p < b.stations → (e : ℕ) × First b c p e
  pub last : (b : BookValue) (c : ChartValue) (p : ℕ) → p < b.stations → (e : ℕ) × Last b c p e
  pub one_first : (b : BookValue) (c : ChartValue) (p e f : ℕ) → First b c p e → First b c p f → e ≡ f
  pub one_last : (b : BookValue) (c : ChartValue) (p e f : ℕ) → Last b c p e → Last b c p f → e ≡ f

-- the rules see only the dates of the path's events
abbrev pub SeesEvents : Type 0
SeesEvents = (b : BookValue) → GoodBook b → (path : List ℕ) (d d' : ℕ → ℕ → ℕ) → ((k e : ℕ) → EventOf b path k e → d k e ≡ d' k e) → Dating b path d → Dating b path d'

-- Composition, at any length

-- a path and one more link: whether it can be dated, and its profile, follow from the profile of the path, the link and the chart that it enters
pub record ComposeLaw : Type 0 where
  pub datable : (b : BookValue) → GoodBook b → (path : List ℕ) (P : ℕ → ℕ → ℤ) → Profile b path P → (l : ℕ) → Datable b (path ++ l ∷ []) ↔ Solution b (link b l) P
  pub profile : (b : BookValue) → GoodBook b → (path : List ℕ) (P : ℕ → ℕ → ℤ) → Profile b path P → (l : ℕ) (Q : ℕ → ℕ → ℤ) → Profile b (path ++ l ∷ []) Q ↔ StepProfile b (link b l) P Q

-- the first chart alone
pub record FirstLaw : Type 0 where
  pub datable : (b : BookValue) → Datable b [] ↔ ((d : ℕ → ℕ) × KeepsChart b (chart b b.first) d)
  pub profile : (b : BookValue) (P : ℕ → ℕ → ℤ) → Profile b [] P ↔ ChartProfile b (chart b b.first) P

-- the class of a path: its chart and its profile
pub record ClassLaw : Type 0 where
  -- another path is in one class with it exactly if it has that chart and that profile
  pub one_class : (b : BookValue) (path other : List ℕ) (c : ℕ) (P : ℕ → ℕ → ℤ) → InClass b path c P → Path b other → SameClass b path other ↔ InClass b other c P
  -- the links by which one goes on from it, and where they lead
  pub goes : (b : BookValue) → GoodBook b → (path : List ℕ) (c : ℕ) (P : ℕ → ℕ → ℤ) → InClass b path c P → (l : ℕ) → Goes b c P l ↔ (Path b (path ++ l ∷ []) × Datable b (path ++ l ∷ []))
  pub leads : (b : BookValue) → GoodBook b → (path : List ℕ) (c : ℕ) (P : ℕ → ℕ → ℤ) → InClass b path c P → (l c' : ℕ) (Q : ℕ → ℕ → ℤ) → Leads b c P l c' Q ↔ InClass b (path ++ l ∷ []) c' Q

-- two paths of one class have the same extensions, which are again in one class
pub record SameClassLaw : Type 0 where
  pub datable : (b : BookValue) → GoodBook b → (path other : List ℕ) → SameClass b path other → (l : ℕ) → Datable b (path ++ l ∷ []) ↔ Datable b (other ++ l ∷ [])
  pub profile : (b : BookValue) → GoodBook b → (path other : List ℕ) → SameClass b path other → (l : ℕ) (Q : ℕ → ℕ → ℤ) → Profile b (path ++ l ∷ []) Q ↔ Profile b (other ++ l ∷ []) Q
  pub again : (b : BookValue) → GoodBook b → (path other : List ℕ) → SameClass b path other → (l : ℕ) → Datable b (path ++ l ∷ []) → SameClass b (path ++ l ∷ []) (other ++ l ∷ [])

-- the beginning of a datable path is a datable path
pub record BeginningLaw : Type 0 where
  pub is_path : (b : BookValue) (path : List ℕ) (l : ℕ) → Path b (path ++ l ∷ []) ↔ (Path b path × (l < length b.links) × ((link b l).from ≡ last_number b path))
  pub datable : (b : BookValue) (path : List ℕ) (l : ℕ) → Datable b (path ++ l ∷ []) → Datable b path

-- Profiles

-- a path that can be dated has one profile, with entries between minus far and far, and 0 for a station and itself
pub record ProfileLaw : Type 0 where
  pub exists : (b : BookValue) → GoodBook b → (path : List ℕ) → Datable b path → (P : ℕ → ℕ → ℤ) × Profile b path P
  pub unique : (b : BookValue) (path : List ℕ) (P Q : ℕ → ℕ → ℤ) → Profile b path P → Profile b path Q → (p q : ℕ) → p < b.stations → q < b.stations → P p q ≡ Q p q
  pub within_far : (b : BookValue) → GoodBook b → (path : List ℕ) (P : ℕ → ℕ → ℤ) → Profile b path P → (p q : ℕ) → p < b.stations → q < b.stations → WithinFar b (P p q)
  pub own : (b : BookValue) (path : List ℕ) (P : ℕ → ℕ → ℤ) → Profile b path P → (p : ℕ) → p < b.stations → P p p ≡ pos 0

-- a step has one profile at most, from whichever profile it is made, with the same limits
pub record StepProfileLaw : Type 0 where
  pub unique : (b : BookValue) (l : Link) (P Q R : ℕ → ℕ → ℤ) → StepProfile b l P Q → StepProfile b l P R → (p q : ℕ) → p < b.stations → q < b.stations → Q p q ≡ R p q
  pub within_far : (b : BookValue) → GoodBook b → (l : Link) (P Q : ℕ → ℕ → ℤ) → StepProfile b l P Q → (p q : ℕ) → p < b.stations → q < b.stations → WithinFar b (Q p q)
  pub own : (b : BookValue) (l : Link) (P Q : ℕ → ℕ → ℤ) → StepProfile b l P Q → (p : ℕ) → p < b.stations → Q p p ≡ pos 0

-- The earliest dating

pub record EarliestLaw : Type 0 where
  -- of two datings, the earlier date of each event is a dating
  pub minimum : (b : BookValue) (path : List ℕ) (d d' : ℕ → ℕ → ℕ) → Dating b path d → Dating b path d' → Dating b path (λ k e. min (d k e) (d' k e))
  pub exists : (b : BookValue) → GoodBook b → (path : List ℕ) → Datable b path → (d : ℕ → ℕ → ℕ) × Earliest b path d
  pub unique : (b : BookValue) (path : List ℕ) (d d' : ℕ → ℕ → ℕ) → Earliest b path d → Earliest b path d' → (k e : ℕ) → EventOf b path k e → d k e ≡ d' k e
  -- no date at position k is above this
  pub most : (b : BookValue) → GoodBook b → (path : List ℕ) (d : ℕ → ℕ → ℕ) → Earliest b path d → (k e : ℕ) → EventOf b path k e → d k e ≤ k * (10000 + b.far) + b.far
  -- so on a path of 4,096 charts the dates fit 32 bits
  pub fits : (b : BookValue) → GoodBook b → (path : List ℕ) (d : ℕ → ℕ → ℕ) → Earliest b path d → length path < 4096 → (k e : ℕ) → EventOf b path k e → d k e ≤ 81910000

-- Tables

pub record ClosedLaw : Type 0 where
  -- what has a bad cycle has no solution
  pub forbidden : (n : ℕ) (A : Table) → BadCycle (Entry n A) → (x : ℕ → ℕ) → Keeps (Entry n A) x → ⊥
  -- what can be closed has one, and an earliest one
  pub solvable : (n : ℕ) (A D : Table) → ShortestWalks n A D → (x : ℕ → ℕ) × Keeps (Entry n A) x × ((z : ℕ → ℕ) → Keeps (Entry n A) z → (k : ℕ) → k < n → x k ≤ z k)
  -- closing changes nothing of what the table says
  pub same : (n : ℕ) (A D : Table) → ShortestWalks n A D → (x : ℕ → ℕ) → Keeps (Entry n A) x ↔ Keeps (Entry n D) x
  -- some solution attains a closed entry between two places, and where it is none nothing limits the difference
  pub attained : (n : ℕ) (A D : Table) → ShortestWalks n A D → (i j : ℕ) (w : ℤ) → Entry n D i j w → ¬ (i ≡ j) → (x : ℕ → ℕ) × Keeps (Entry n A) x × (difference (x j) (x i) ≡ w)
  pub unlimited : (n : ℕ) (A D : Table) → ShortestWalks n A D → (i j : ℕ) → i < n → j < n → ¬ (i ≡ j) → D i j ≡ None → (t : ℕ) → (x : ℕ → ℕ) × Keeps (Entry n A) x × (x i + t ≤ x j)
  -- dates of the marked places that keep the closed entries between them are, moved by a constant, those of a solution
  pub extended : (n : ℕ) (A D : Table) → ShortestWalks n A D → (marked : ℕ → Bool) (y : ℕ → ℕ) → ((i j : ℕ) (w : ℤ) → Entry n D i j w → marked i ≡ true → marked j ≡ true → difference (y j) (y i) ≤ℤ w) → (x : ℕ → ℕ) × (m : ℕ) × Keeps (Entry n A) x × ((k : ℕ) → k < n → marked k ≡ true → x k ≡ y k + m)

-- a table that says what the rules of a chart ask decides whether the chart alone can be dated, and with which profile
abbrev pub ChartTableLaw : Type 0
ChartTableLaw = (b : BookValue) → GoodBook b → (c : ChartValue) (A : Table) → SaysChart b c A → TableDecides b c ((d : ℕ → ℕ) × KeepsChart b c d) (λ s. s.0) (event_count b c) 0 A

-- and one that says what a step asks decides the step, for every profile that is handed in
abbrev pub StepTableLaw : Type 0
StepTableLaw = (b : BookValue) → GoodBook b → (l : Link) (P : ℕ → ℕ → ℤ) (A : Table) → SaysStep b l P A → TableDecides b (enters b l) (Solution b l P) (λ s. s.1) (step_places b l) b.stations A

-- such tables are filled by tightening one entry after another, and there is one for each chart of a good book, and for each link and every profile
pub record TablesLaw : Type 0 where
  -- to tighten an entry adds one bound to what the table says
  pub tighten : (n : ℕ) (A : Table) (i j : ℕ) (w : ℤ) (A' : Table) → i < n → j < n → Tightens n A i j w A' → (z : ℕ → ℕ) → Keeps (Entry n A') z ↔ (Keeps (Entry n A) z × (difference (z j) (z i) ≤ℤ w))
  pub tighten_own : (n : ℕ) (A : Table) (i j : ℕ) (w : ℤ) (A' : Table) → Tightens n A i j w A' → Own n A → Own n A'
  pub chart : (b : BookValue) → GoodBook b → (c : ℕ) → (A : Table) × SaysChart b (chart b c) A
  pub step : (b : BookValue) → GoodBook b → (l : ℕ) (P : ℕ → ℕ → ℤ) → (A : Table) × SaysStep b (link b l) P A
