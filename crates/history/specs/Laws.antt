-- What every list of calls obeys.
use Rattle.std.specs.Prelude.{◌≡◌, ℕ, suc, ◌*◌, ◌<◌, ◌≤◌, List, [], ◌∷◌, ◌++◌, length, Some, None, Ok, Err, Result, slice_index_or}
use Rattle.bookformat.specs.declared.fault.Fault.{Fault}
use Rattle.bookformat.specs.declared.fault.Fault.TheVariants as fault
use Rattle.bookformat.specs.Values.{BookValue}
use Rattle.chartbook.specs.Reads.{Taken}
use Rattle.paths.specs.Paths.{chart_number, Path, Final}
use Rattle.paths.specs.Datings.{Datable}
use Rattle.paths.specs.Profiles.{SameClass}
use Rattle.search.specs.Walks as walk
use Rattle.search.specs.Walks.{Stage, Walked}
use Rattle.classes.specs.Ranged.{ranged}
use Rattle.history.specs.declared.calls.Leg.{Leg}
use Rattle.history.specs.declared.calls.Call.{Call}
use Rattle.history.specs.declared.calls.Answer.{Answer}
use Rattle.history.specs.Views.{View, phase_of, rows_of}
use Rattle.history.specs.Meanings.{link_to, LegMeans, DatesShown, DatesMeans}
use Rattle.history.specs.Histories.{Did, History, Reaches, calls_of, answers_of, lent_of, left_of, Reads, TellsCharts, taken, budgets, steps}

-- a final path that can be dated
pub record Runnable (b : BookValue) (path : List ℕ) : Type 0 where
  pub is_path : Path b path
  pub final : Final b path
  pub datable : Datable b path

-- a leg is that of the path: its chart and the link that led to it
abbrev pub LegOn : BookValue → List ℕ → ℕ → Result Leg Fault → Type 0
LegOn b path position (Ok leg) = (position ≤ length path) × (leg.chart ≡ chart_number b path position) × (leg.link ≡ link_to path position)
LegOn b path position (Err f) = (length path < position) × (f ≡ fault.OffPath (suc (length path)))

-- The shortest final path that can be dated: what is answered by a, and by leg and dates where v is held, shows it.
pub record ShowsPath (b : BookValue) (a : Answer) (v : View) (path : List ℕ) : Type 0 where
  pub runs : Runnable b path
  pub shortest : (other : List ℕ) → Runnable b other → length path ≤ length other
  pub charts : (n : ℕ) → TellsCharts a n → n ≡ suc (length path)
  pub legs : (position : ℕ) (r : Result Leg Fault) → LegMeans v position r → LegOn b path position r
  pub dates : (lent : List ℕ) (r : Result ℕ Fault) (left : List ℕ) → DatesMeans v lent r left → DatesShown b path lent r left

-- more datable paths than rows, no two of them in one class
pub record Crowd (capacity : ℕ) (b : BookValue) : Type 0 where
  pub paths : List (List ℕ)
  pub many : length paths ≡ suc capacity
  pub are_paths : (k : ℕ) → k < length paths → Path b (slice_index_or paths k [])
  pub datable : (k : ℕ) → k < length paths → Datable b (slice_index_or paths k [])
  pub apart : (i k : ℕ) → i < k → k < length paths → SameClass b (slice_index_or paths i []) (slice_index_or paths k []) → ⊥

-- the view is what the walk has come to
pub record Holds (b : BookValue) (z : Stage (ranged b)) (v : View) : Type 0 where
  pub book : v.book ≡ b
  pub rows : rows_of b v.rows ≡ z.rows
  pub phase : phase_of v.phase ≡ z.phase

-- What the latest answer says, where b is the book last taken
pub record BookLaw (capacity : ℕ) (d : Did) (h : History) (b : BookValue) : Type 0 where
  -- the state read is the one to which the walk comes with as many rows and steps, and the register's rows are the walk's
  pub walked : (z : Stage (ranged b)) × Walked (ranged b) capacity (steps (d ∷ h)) z × ((v : View) → Reaches capacity (d ∷ h) v → Holds b z v) × ((n : ℕ) → Reads d.answer n → n ≡ walk.code z.phase)
  -- empty: no final path, of any length, can be dated
  pub empty : Reads d.answer 3 → (path : List ℕ) → Runnable b path → ⊥
  -- runs: the shortest final path that can be dated is shown
  pub runs : Reads d.answer 2 → (v : View) → Reaches capacity (d ∷ h) v → (path : List ℕ) × ShowsPath b d.answer v path
  -- spent: there are more classes of datable paths than rows
  pub spent : Reads d.answer 4 → Crowd capacity b
  -- open: the budgets have not come to rows × links
  pub unfinished : Reads d.answer 1 → budgets (d ∷ h) < capacity * length b.links

-- What the latest answer says after the earlier ones
pub record Law (capacity : ℕ) (d : Did) (h : History) : Type 0 where
  -- no book has been taken: the state is idle
  pub idle : taken (d ∷ h) ≡ None → (n : ℕ) → Reads d.answer n → n ≡ 0
  pub on_book : (bytes : List ℕ) → taken (d ∷ h) ≡ Some bytes → (b : BookValue) → Taken bytes b → BookLaw capacity d h b

-- each answer keeps the law of what came before it
abbrev pub Lawful : ℕ → History → Type 0
Lawful capacity [] = Unit {0}
Lawful capacity (d ∷ h) = Law capacity d h × Lawful capacity h

abbrev pub HistoryLaw : Type 0
HistoryLaw = (capacity : ℕ) (h : History) (v : View) → Reaches capacity h v → Lawful capacity h

-- no other state, number of steps or charts, leg or date could be answered: what the same calls do with the same space is the same, whatever the
-- register held
abbrev pub Only : ℕ → History → Type 0
Only capacity h = (other : History) (w : View) → Reaches capacity other w → calls_of other ≡ calls_of h → lent_of other ≡ lent_of h → other ≡ h

abbrev pub OnlyLaw : Type 0
OnlyLaw = (capacity : ℕ) (h : History) (v : View) → Reaches capacity h v → Only capacity h

-- The calls were carried out in their order on a new examination, with these answers, over this space, and led to this view.
pub record Conducted (capacity : ℕ) (calls : List Call) (answers : List Answer) (lent left : List ℕ) (v : View) : Type 0 where
  pub history : History
  pub asked : calls_of history ≡ calls
  pub answered : answers_of history ≡ answers
  -- the space is lent from its front on, and what lies behind stays as it was
  pub rest : List ℕ
  pub lent_is : lent_of history ++ rest ≡ lent
  pub left_is : left_of history ++ rest ≡ left
  pub stands : Reaches capacity history v
  pub lawful : Lawful capacity history
  pub only : Only capacity history
