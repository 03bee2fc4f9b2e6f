-- What carrying out a list of calls answers.
use Rattle.std.specs.Prelude.{◌≡◌, ℕ, ◌-◌, ◌^◌, ◌<◌, ◌≤◌, min, List, ◌++◌, length, take, drop, Some, None, Ok, Err, Option, Result}
use Rattle.bookformat.specs.declared.fault.Fault.{Fault}
use Rattle.bookformat.specs.declared.fault.Fault.TheVariants.{TooLittleSpace}
use Rattle.register.specs.declared.row.Row.{Row}
use Rattle.history.specs.declared.calls.Call.{Call}
use Rattle.history.specs.declared.calls.Answer.{Answer}
use Rattle.history.specs.Views.{View}
use Rattle.history.specs.Histories.{spaces, Answers}
use Rattle.history.specs.Laws.{Conducted}
use Rattle.examination.specs.declared.exam.Examination.{Examination}
use Rattle.examination.specs.Views.{view_of}

-- the space for dates that all calls are lent, or none if 64 bits cannot say it
abbrev pub SpacesIs : List Call → Option ℕ → Type 0
SpacesIs calls (Some n) = n ≡ spaces calls
SpacesIs calls None = 2 ^ 64 ≤ spaces calls

-- there is space for all answers and dates
pub record RoomFor (calls : List Call) (answers dates : ℕ) : Type 0 where
  pub for_answers : length calls ≤ answers
  pub for_dates : spaces calls ≤ dates

-- there is too little: the fault names the length needed, or the largest number if that is beyond 64 bits
pub data TooShort (calls : List Call) (answers dates : ℕ) (f : Fault) : Type 0 where
  few_answers : answers < length calls → f ≡ TooLittleSpace (length calls) → TooShort calls answers dates f
  few_dates : length calls ≤ answers → dates < spaces calls → f ≡ TooLittleSpace (min (spaces calls) (2 ^ 64 - 1)) → TooShort calls answers dates f

abbrev pub RoomChecked : {X : Type 0} → List Call → ℕ → ℕ → Result X Fault → Type 0
RoomChecked calls answers dates (Ok x) = RoomFor calls answers dates
RoomChecked calls answers dates (Err f) = TooShort calls answers dates f

-- the part of the space from one place to another was lent, and left so
pub record PartLeft (start end : ℕ) (lent left part : List ℕ) : Type 0 where
  pub long : length part ≡ end - start
  pub front : take end left ≡ take start lent ++ part
  pub behind : drop end left ≡ drop end lent

-- a call that is lent this part
pub record Performed (capacity : ℕ) (v : View) (c : Call) (a : Answer) (start end : ℕ) (lent left : List ℕ) (w : View) : Type 0 where
  pub part : List ℕ
  pub parted : PartLeft start end lent left part
  pub answers : Answers capacity v c a (take (end - start) (drop start lent)) part w

-- the calls were carried out on a new examination, which is handed over: each answer is in its place, and space beyond stays as it was
pub record AllDone (capacity : ℕ) (calls : List Call) (answers answered : List Answer) (lent left : List ℕ) (e : Examination) (rows : List Row) : Type 0 where
  pub room : RoomFor calls (length answers) (length lent)
  pub conducted : Conducted capacity calls (take (length calls) answered) lent left (view_of e.book e.phase rows)
  pub beyond : drop (length calls) answered ≡ drop (length calls) answers

-- nothing was done
pub record NoneDone (calls : List Call) (answers answered : List Answer) (lent left : List ℕ) (f : Fault) (before rows : List Row) : Type 0 where
  pub short : TooShort calls (length answers) (length lent) f
  pub same_answers : answered ≡ answers
  pub same_dates : left ≡ lent
  pub same_rows : rows ≡ before

abbrev pub ConductMeans : ℕ → List Call → List Answer → List Answer → List ℕ → List ℕ → List Row → Result Examination Fault → List Row → Type 0
ConductMeans capacity calls answers answered lent left before (Ok e) rows = AllDone capacity calls answers answered lent left e rows
ConductMeans capacity calls answers answered lent left before (Err f) rows = NoneDone calls answers answered lent left f before rows
