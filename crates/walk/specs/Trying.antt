-- What the parts of a step of the walk answer.
use Rattle.std.specs.Prelude.{◌≡◌, ℕ, ◌<◌, ◌≤◌, List, [], length, pos, Some, None, Option, ◌≢◌, slice_index_or}
use Rattle.bookformat.specs.Values.{BookValue}
use Rattle.paths.specs.Paths.{link}
use Rattle.register.specs.declared.row.Class.{Class}
use Rattle.register.specs.declared.row.Row.{Row}
use Rattle.register.specs.declared.interface.Entered.{Entered}
use Rattle.register.specs.declared.interface.Entered.TheVariants as entered
use Rattle.search.specs.Systems.{Goes}
use Rattle.search.specs.Walks as search
use Rattle.search.specs.Walks.{Tries, Begins}
use Rattle.search.specs.Places.{Continues, Moves}
use Rattle.classes.specs.Ranged.{ranged}
use Rattle.history.specs.declared.phase.Phase.{Phase}
use Rattle.history.specs.Views.{phase_of, rows_of}
use Rattle.walk.specs.declared.outcome.Outcome.{Outcome}
use Rattle.walk.specs.declared.outcome.Outcome.TheVariants.{Barred, Full, Known, New}

-- what a step meets, in the terms of the walk
abbrev pub outcome_of : Outcome → search.Outcome
outcome_of Barred = search.Barred
outcome_of Full = search.Full
outcome_of (Known k) = search.Known k
outcome_of (New k) = search.New k

-- what is met if the register answers so
abbrev pub outcome_by : Entered → Outcome
outcome_by (entered.Known k) = Known k
outcome_by (entered.New k) = New k
outcome_by entered.Full = Full

-- two classes between which a step sees no difference: they have one chart, and the same entries, where 0 stands for an entry that is not there
pub record Alike (s t : Class) : Type 0 where
  pub chart : s.chart ≡ t.chart
  pub entries : (k : ℕ) → slice_index_or s.profile.entries k (pos 0) ≡ slice_index_or t.profile.entries k (pos 0)

-- the class to which the link leads from a class, or none: then no path of the class goes on so
abbrev pub LedTo : BookValue → Class → ℕ → Option Class → Type 0
LedTo b s l (Some t) = (ranged b).leads s l t
LedTo b s l None = Goes (ranged b) s l → ⊥

-- the class of the first chart alone, or none: then it cannot be dated
abbrev pub Starts : BookValue → Option Class → Type 0
Starts b (Some s) = (ranged b).In [] s
Starts b None = (s : Class) → (ranged b).In [] s → ⊥

-- the first link from a number on that begins at a chart
abbrev pub FirstFrom : BookValue → ℕ → ℕ → Option ℕ → Type 0
FirstFrom b chart start (Some l) = (start ≤ l) × (l < length b.links) × ((link b l).from ≡ chart) × ((j : ℕ) → start ≤ j → j < l → (link b j).from ≢ chart)
FirstFrom b chart start None = (j : ℕ) → start ≤ j → j < length b.links → (link b j).from ≢ chart

-- the pair of row p and link l is tried, with this outcome
abbrev pub Tried : BookValue → ℕ → List Row → ℕ → ℕ → Outcome → List Row → Type 0
Tried b capacity rows p l o after = Tries (ranged b) capacity (rows_of b rows) p l (outcome_of o) (rows_of b after)

-- the phase after it
abbrev pub Follows : BookValue → List Row → ℕ → ℕ → Outcome → Phase → Type 0
Follows b rows p l o f = Continues (ranged b) (rows_of b rows) p l (outcome_of o) (phase_of f)

-- one step of the walk
pub record Stepped (b : BookValue) (capacity : ℕ) (rows : List Row) (p l : ℕ) (after : List Row) (f : Phase) : Type 0 where
  pub outcome : Outcome
  pub tried : Tried b capacity rows p l outcome after
  pub follows : Follows b after p l outcome f

-- the walk has begun
abbrev pub Started : BookValue → List Row → Phase → Type 0
Started b rows f = Begins (ranged b) (record { rows = rows_of b rows; tried = []; phase = phase_of f })

-- the link that is tried next exists
abbrev pub NextExists : BookValue → search.Phase → Type 0
NextExists b search.Idle = Unit {0}
NextExists b (search.Open p l) = l < length b.links
NextExists b (search.Runs k) = Unit {0}
NextExists b search.Empty = Unit {0}
NextExists b search.Spent = Unit {0}

-- the walk has gone on by so many steps, while it was open and within the budget
pub record Gone (b : BookValue) (capacity : ℕ) (rows : List Row) (f : Phase) (budget steps : ℕ) (after : List Row) (g : Phase) : Type 0 where
  pub moves : Moves (ranged b) capacity (rows_of b rows) (phase_of f) steps (rows_of b after) (phase_of g)
  pub within : steps ≤ budget
  pub stopped : steps < budget → search.IsOpen (phase_of g) → ⊥
  pub exists : NextExists b (phase_of g)
