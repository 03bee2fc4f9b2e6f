-- What each call answers and does, over what the examination and its register hold. The rows may be any: where a path is shown, it
-- is the one that the rows tell of.
use Rattle.std.specs.Prelude.{◌≡◌, ℕ, zero, suc, ◌<◌, ◌≤◌, List, [], length, take, drop, Some, None, Ok, Err, Option, Result, slice_index}
use Rattle.bookformat.specs.declared.fault.Fault.{Fault}
use Rattle.bookformat.specs.declared.fault.Fault.TheVariants as fault
use Rattle.bookformat.specs.Values.{BookValue}
use Rattle.chartbook.specs.Reads.{Taken, Refused}
use Rattle.paths.specs.Paths.{Path}
use Rattle.paths.specs.Datings.{Datable, Earliest}
use Rattle.paths.specs.Listing.{events_of, written}
use Rattle.register.specs.declared.row.Row.{Row}
use Rattle.search.specs.Rows.{Trail, class_at}
use Rattle.search.specs.Walks.{Begins, IsOpen}
use Rattle.search.specs.Places.{Moves}
use Rattle.classes.specs.Ranged.{ranged}
use Rattle.history.specs.declared.phase.State.{State}
use Rattle.history.specs.declared.phase.Phase.{Phase}
use Rattle.history.specs.declared.phase.Phase.TheVariants.{Idle, Open, Runs, Empty, Spent}
use Rattle.history.specs.declared.calls.Verdict.{Verdict}
use Rattle.history.specs.declared.calls.Leg.{Leg}
use Rattle.history.specs.States.{code}
use Rattle.history.specs.Views.{View, Same, state_of, phase_of, rows_of, stage_of}

-- begin

-- the bytes are taken for the book that they say, and the walk through it has begun
pub record Begun (capacity : ℕ) (bytes : List ℕ) (s : State) (w : View) : Type 0 where
  pub room : 0 < capacity
  pub taken : Taken bytes w.book
  pub begins : Begins (ranged w.book) (stage_of w [])
  pub state : s ≡ state_of w.phase

pub data BeginFault (capacity : ℕ) (bytes : List ℕ) (f : Fault) : Type 0 where
  no_room : capacity ≡ 0 → f ≡ fault.NoCapacity → BeginFault capacity bytes f
  bad_book : 0 < capacity → Refused bytes f → BeginFault capacity bytes f

abbrev pub BeginMeans : ℕ → List ℕ → View → Result State Fault → View → Type 0
BeginMeans capacity bytes v (Ok s) w = Begun capacity bytes s w
BeginMeans capacity bytes v (Err f) w = BeginFault capacity bytes f × Same v w

-- advance

-- the walk has gone on by so many steps, while it was open and within the budget
pub record Advanced (capacity budget : ℕ) (v : View) (steps state : ℕ) (w : View) : Type 0 where
  pub begun : v.phase ≡ Idle → ⊥
  pub book : w.book ≡ v.book
  pub moves : Moves (ranged v.book) capacity (rows_of v.book v.rows) (phase_of v.phase) steps (rows_of v.book w.rows) (phase_of w.phase)
  pub within : steps ≤ budget
  pub stopped : steps < budget → IsOpen (phase_of w.phase) → ⊥
  pub state_is : state ≡ code (state_of w.phase)

abbrev pub AdvanceMeans : ℕ → ℕ → View → Result (ℕ × ℕ) Fault → View → Type 0
AdvanceMeans capacity budget v (Ok a) w = Advanced capacity budget v a.0 a.1 w
AdvanceMeans capacity budget v (Err f) w = (f ≡ fault.Idle) × (v.phase ≡ Idle) × Same v w

-- the links of the path that leads to row k
abbrev pub TrailTo : BookValue → List Row → ℕ → List ℕ → Type 0
TrailTo b rows k path = Trail (ranged b) (rows_of b rows) k path

-- verdict

abbrev pub ChartsIn : BookValue → List Row → Phase → ℕ → Type 0
ChartsIn b rows Idle n = n ≡ 0
ChartsIn b rows (Open p l) n = n ≡ 0
ChartsIn b rows (Runs k) n = (path : List ℕ) → TrailTo b rows k path → n ≡ suc (length path)
ChartsIn b rows Empty n = n ≡ 0
ChartsIn b rows Spent n = n ≡ 0

pub record VerdictMeans (v : View) (told : Verdict) : Type 0 where
  pub state : told.state ≡ state_of v.phase
  pub charts : ChartsIn v.book v.rows v.phase told.charts

-- leg

-- the link that leads to a position of a path, which none does at 0
abbrev pub link_to : List ℕ → ℕ → Option ℕ
link_to path zero = None
link_to path (suc j) = Some (slice_index path j)

-- the leg is that of the row to which the first links of the path lead
pub record LegOf (b : BookValue) (rows : List Row) (path : List ℕ) (position : ℕ) (leg : Leg) : Type 0 where
  pub on_path : position ≤ length path
  pub row : ℕ
  pub trail : TrailTo b rows row (take position path)
  pub chart : leg.chart ≡ (class_at (rows_of b rows) row).chart
  pub link : leg.link ≡ link_to path position

abbrev pub LegShown : BookValue → List Row → List ℕ → ℕ → Result Leg Fault → Type 0
LegShown b rows path position (Ok leg) = LegOf b rows path position leg
LegShown b rows path position (Err f) = (length path < position) × (f ≡ fault.OffPath (suc (length path)))

abbrev pub LegIn : BookValue → List Row → Phase → ℕ → Result Leg Fault → Type 0
LegIn b rows Idle position r = r ≡ Err fault.Idle
LegIn b rows (Open p l) position r = r ≡ Err fault.NotRunning
LegIn b rows (Runs k) position r = (path : List ℕ) → TrailTo b rows k path → LegShown b rows path position r
LegIn b rows Empty position r = r ≡ Err fault.NotRunning
LegIn b rows Spent position r = r ≡ Err fault.NotRunning

abbrev pub LegMeans : View → ℕ → Result Leg Fault → Type 0
LegMeans v position r = LegIn v.book v.rows v.phase position r

-- dates

-- so many dates at the front of the space are the earliest dating of the path
pub record DatesOf (b : BookValue) (path : List ℕ) (n : ℕ) (left : List ℕ) : Type 0 where
  pub count : n ≡ events_of b path
  pub earliest : Earliest b path (written b path left)

abbrev pub DatesShown : BookValue → List ℕ → List ℕ → Result ℕ Fault → List ℕ → Type 0
DatesShown b path lent (Ok n) left = DatesOf b path n left
DatesShown b path lent (Err f) left = (length lent < events_of b path) × (f ≡ fault.TooLittleSpace (events_of b path))

abbrev pub DatesIn : BookValue → List Row → Phase → List ℕ → Result ℕ Fault → List ℕ → Type 0
DatesIn b rows Idle lent r left = r ≡ Err fault.Idle
DatesIn b rows (Open p l) lent r left = r ≡ Err fault.NotRunning
DatesIn b rows (Runs k) lent r left = (path : List ℕ) → TrailTo b rows k path → Path b path → Datable b path → DatesShown b path lent r left
DatesIn b rows Empty lent r left = r ≡ Err fault.NotRunning
DatesIn b rows Spent lent r left = r ≡ Err fault.NotRunning

-- what lies behind the dates stays as it was, and all of it where the call is refused
abbrev pub RestKept : List ℕ → Result ℕ Fault → List ℕ → Type 0
RestKept lent (Ok n) left = (n ≤ length lent) × (length left ≡ length lent) × (drop n left ≡ drop n lent)
RestKept lent (Err f) left = left ≡ lent

pub record DatesMeans (v : View) (lent : List ℕ) (r : Result ℕ Fault) (left : List ℕ) : Type 0 where
  pub dates : DatesIn v.book v.rows v.phase lent r left
  pub rest : RestKept lent r left
