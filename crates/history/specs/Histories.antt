-- Lists of calls on one examination and its register.
use Rattle.std.specs.Prelude.{◌≡◌, ℕ, ◌+◌, List, [], ◌∷◌, ◌++◌, length, Some, None, Ok, Err, Option, Result}
use Rattle.bookformat.specs.declared.fault.Fault.{Fault}
use Rattle.history.specs.declared.phase.State.{State}
use Rattle.history.specs.declared.phase.Phase.TheVariants.{Idle}
use Rattle.history.specs.declared.calls.Verdict.{Verdict}
use Rattle.history.specs.declared.calls.Leg as leg
use Rattle.history.specs.declared.calls.Call.{Call}
use Rattle.history.specs.declared.calls.Call.TheVariants.{Verdict as AskVerdict, Begin, Advance, Leg, Dates}
use Rattle.history.specs.declared.calls.Answer.{Answer}
use Rattle.history.specs.declared.calls.Answer.TheVariants.{Told, Begun, Advanced, Shown, Dated}
use Rattle.history.specs.States.{code}
use Rattle.history.specs.Views.{View, Same}
use Rattle.history.specs.Meanings.{BeginMeans, AdvanceMeans, VerdictMeans, LegMeans, DatesMeans}

-- A call and its answer. The space for dates is lent to it, and left by it.
pub record Did : Type 0 where
  pub call : Call
  pub answer : Answer
  pub lent : List ℕ
  pub left : List ℕ

-- what was done, the latest first
abbrev pub History : Type 0
History = List Did

-- how much space a call is lent
abbrev pub space : Call → ℕ
space AskVerdict = 0
space (Begin bytes) = 0
space (Advance budget) = 0
space (Leg position) = 0
space (Dates n) = n

-- the call is answered so, and what the examination and its register hold goes from v to w
abbrev pub Answers : ℕ → View → Call → Answer → List ℕ → List ℕ → View → Type 0
Answers capacity v AskVerdict a lent left w = (told : Verdict) × (a ≡ Told told) × VerdictMeans v told × Same v w × (left ≡ lent)
Answers capacity v (Begin bytes) a lent left w = (r : Result State Fault) × (a ≡ Begun r) × BeginMeans capacity bytes.now v r w × (left ≡ lent)
Answers capacity v (Advance budget) a lent left w = (r : Result (ℕ × ℕ) Fault) × (a ≡ Advanced r) × AdvanceMeans capacity budget v r w × (left ≡ lent)
Answers capacity v (Leg position) a lent left w = (r : Result leg.Leg Fault) × (a ≡ Shown r) × LegMeans v position r × Same v w × (left ≡ lent)
Answers capacity v (Dates n) a lent left w = (r : Result ℕ Fault) × (a ≡ Dated r) × DatesMeans v lent r left × Same v w

pub record Does (capacity : ℕ) (v : View) (d : Did) (w : View) : Type 0 where
  pub lends : length d.lent ≡ space d.call
  pub answers : Answers capacity v d.call d.answer d.lent d.left w

-- What was done led to this view from a new examination, whatever its register held: each call acts on what those before it left.
pub data Reaches (capacity : ℕ) : History → View → Type 0 where
  fresh : {h : History} {v : View} → h ≡ [] → v.phase ≡ Idle → Reaches capacity h v
  next : {h : History} {w : View} (d : Did) (g : History) (v : View) → h ≡ d ∷ g → Reaches capacity g v → Does capacity v d w → Reaches capacity h w

-- the calls, the answers, and the space lent and left, in the order of the calls
abbrev pub calls_of : History → List Call
calls_of [] = []
calls_of (d ∷ h) = calls_of h ++ d.call ∷ []

abbrev pub answers_of : History → List Answer
answers_of [] = []
answers_of (d ∷ h) = answers_of h ++ d.answer ∷ []

abbrev pub lent_of : History → List ℕ
lent_of [] = []
lent_of (d ∷ h) = lent_of h ++ d.lent

abbrev pub left_of : History → List ℕ
left_of [] = []
left_of (d ∷ h) = left_of h ++ d.left

-- how much space all the calls are lent
abbrev pub spaces : List Call → ℕ
spaces [] = 0
spaces (c ∷ cs) = space c + spaces cs

-- the number of the state that an answer reads, which a leg, dates or a refusal does not
abbrev pub Reads : Answer → ℕ → Type 0
Reads (Told t) n = code t.state ≡ n
Reads (Begun (Ok s)) n = code s ≡ n
Reads (Begun (Err f)) n = ⊥
Reads (Advanced (Ok a)) n = a.1 ≡ n
Reads (Advanced (Err f)) n = ⊥
Reads (Shown r) n = ⊥
Reads (Dated r) n = ⊥

-- the number of charts that an answer tells
abbrev pub TellsCharts : Answer → ℕ → Type 0
TellsCharts (Told t) n = t.charts ≡ n
TellsCharts (Begun r) n = ⊥
TellsCharts (Advanced r) n = ⊥
TellsCharts (Shown r) n = ⊥
TellsCharts (Dated r) n = ⊥

-- The bytes of the book that a call takes: a begin that is not refused
abbrev pub taken_by : Answer → List ℕ → Option (List ℕ)
taken_by (Told t) bytes = None
taken_by (Begun (Ok s)) bytes = Some bytes
taken_by (Begun (Err f)) bytes = None
taken_by (Advanced r) bytes = None
taken_by (Shown r) bytes = None
taken_by (Dated r) bytes = None

abbrev pub takes : Call → Answer → Option (List ℕ)
takes AskVerdict a = None
takes (Begin bytes) a = taken_by a bytes.now
takes (Advance budget) a = None
takes (Leg position) a = None
takes (Dates n) a = None

abbrev pub latest : Option (List ℕ) → Option (List ℕ) → Option (List ℕ)
latest (Some bytes) earlier = Some bytes
latest None earlier = earlier

-- the bytes of the book last taken
abbrev pub taken : History → Option (List ℕ)
taken [] = None
taken (d ∷ h) = latest (takes d.call d.answer) (taken h)

-- a sum that starts anew where a book is taken
abbrev pub since : Option (List ℕ) → ℕ → ℕ
since (Some bytes) n = 0
since None n = n

abbrev pub budget_of : Call → ℕ
budget_of AskVerdict = 0
budget_of (Begin bytes) = 0
budget_of (Advance budget) = budget
budget_of (Leg position) = 0
budget_of (Dates n) = 0

-- the budgets since the book last taken, added up
abbrev pub budgets : History → ℕ
budgets [] = 0
budgets (d ∷ h) = since (takes d.call d.answer) (budgets h + budget_of d.call)

abbrev pub steps_in : Answer → ℕ
steps_in (Told t) = 0
steps_in (Begun r) = 0
steps_in (Advanced (Ok a)) = a.0
steps_in (Advanced (Err f)) = 0
steps_in (Shown r) = 0
steps_in (Dated r) = 0

-- the steps made since then, added up
abbrev pub steps : History → ℕ
steps [] = 0
steps (d ∷ h) = since (takes d.call d.answer) (steps h + steps_in d.answer)
