-- What a report answers and leaves. The rows may be any: where a path is reported, it is the one that the rows tell of.
use Rattle.std.specs.Prelude.{◌≡◌, ℕ, ◌<◌, ◌≤◌, List, length, drop, Ok, Err, Result}
use Rattle.bookformat.specs.declared.fault.Fault.{Fault}
use Rattle.bookformat.specs.declared.fault.Fault.TheVariants as fault
use Rattle.bookformat.specs.Values.{BookValue}
use Rattle.paths.specs.Paths.{Path}
use Rattle.paths.specs.Datings.{Datable, Earliest}
use Rattle.paths.specs.Listing.{events_of, written}
use Rattle.register.specs.declared.row.Row.{Row}
use Rattle.history.specs.declared.phase.State.TheVariants as state
use Rattle.history.specs.declared.phase.Phase.{Phase}
use Rattle.history.specs.declared.phase.Phase.TheVariants.{Idle, Open, Runs, Empty, Spent}
use Rattle.history.specs.Views.{View}
use Rattle.history.specs.Meanings.{TrailTo}
use Rattle.report.specs.Texts.{Writes}
use Rattle.report.specs.Reports.{state_line, report_text}

-- The report of a path, with the working space and the space for text as they were (work, text) and as they are left (work', text'):
pub data PathReported (b : BookValue) (path work text : List ℕ) (r : Result ℕ Fault) (work' text' : List ℕ) : Type 0 where
  -- there is too little working space, or
  no_room : length work < events_of b path → r ≡ Err (fault.TooLittleSpace (events_of b path)) → work' ≡ work → text' ≡ text → PathReported b path work text r work' text'
  -- the path's earliest dates lie at the front of it, and the text has them
  dated : events_of b path ≤ length work → Earliest b path (written b path work') → Writes (report_text b path work') text text' r → PathReported b path work text r work' text'

abbrev pub ReportIn : BookValue → List Row → Phase → List ℕ → List ℕ → Result ℕ Fault → List ℕ → List ℕ → Type 0
ReportIn b rows Idle work text r work' text' = (r ≡ Err fault.Idle) × (work' ≡ work)
ReportIn b rows (Open p l) work text r work' text' = Writes (state_line state.Open) text text' r × (work' ≡ work)
ReportIn b rows (Runs k) work text r work' text' = (path : List ℕ) → TrailTo b rows k path → Path b path → Datable b path → PathReported b path work text r work' text'
ReportIn b rows Empty work text r work' text' = Writes (state_line state.Empty) text text' r × (work' ≡ work)
ReportIn b rows Spent work text r work' text' = Writes (state_line state.Spent) text text' r × (work' ≡ work)

-- what lies behind the text stays as it was, and all of it where the report is refused
abbrev pub TextKept : Result ℕ Fault → List ℕ → List ℕ → Type 0
TextKept (Ok n) text text' = (n ≤ length text) × (drop n text' ≡ drop n text)
TextKept (Err f) text text' = text' ≡ text

pub record ReportMeans (v : View) (work text : List ℕ) (r : Result ℕ Fault) (work' text' : List ℕ) : Type 0 where
  pub report : ReportIn v.book v.rows v.phase work text r work' text'
  pub rest : TextKept r text text'

-- the same of a list of links, which is reported if it is a path that can be dated
pub record LinksReported (b : BookValue) (links work text : List ℕ) (r : Result ℕ Fault) (work' text' : List ℕ) : Type 0 where
  pub report : Path b links → Datable b links → PathReported b links work text r work' text'
  pub rest : TextKept r text text'
