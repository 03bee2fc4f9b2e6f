-- The text of a report.
use Rattle.std.specs.Prelude.{ℕ, zero, suc, List, [], ◌∷◌, ◌++◌, length, take, drop, Some, None, codes, decimal, Option}
use Rattle.bookformat.specs.Values.{BookValue}
use Rattle.paths.specs.Charts.{event_count}
use Rattle.paths.specs.Paths.{chart_number, chart_at}
use Rattle.paths.specs.Listing.{events_before}
use Rattle.history.specs.declared.phase.State.{State}
use Rattle.history.specs.declared.phase.State.TheVariants.{Runs}
use Rattle.history.specs.States.{word_text}
use Rattle.history.specs.Meanings.{link_to}
use Rattle.report.specs.Texts.{blank, feed}

-- a number with a space before it
abbrev pub spaced : ℕ → List ℕ
spaced n = blank ∷ decimal n

-- the first line: the word alone, or runs with the number of charts
abbrev pub state_line : State → List ℕ
state_line s = word_text s ++ feed ∷ []

abbrev pub runs_line : ℕ → List ℕ
runs_line charts = word_text Runs ++ spaced charts ++ feed ∷ []

-- the link that led to a chart, or a dash
abbrev pub link_text : Option ℕ → List ℕ
link_text None = codes "-"
link_text (Some l) = decimal l

abbrev pub dates_text : List ℕ → List ℕ
dates_text [] = []
dates_text (d ∷ ds) = spaced d ++ dates_text ds

-- the line of a chart: the link that led to it, its number, and its dates
abbrev pub line_text : Option ℕ → ℕ → List ℕ → List ℕ
line_text link chart dates = link_text link ++ spaced chart ++ dates_text dates ++ feed ∷ []

-- of all the dates of a path, those of the chart at position k
abbrev pub dates_at : BookValue → List ℕ → List ℕ → ℕ → List ℕ
dates_at b path dates k = take (event_count b (chart_at b path k)) (drop (events_before b path k) dates)

-- the lines of the first n positions of a path
abbrev pub lines_text : BookValue → List ℕ → List ℕ → ℕ → List ℕ
lines_text b path dates zero = []
lines_text b path dates (suc k) = lines_text b path dates k ++ line_text (link_to path k) (chart_number b path k) (dates_at b path dates k)

-- the report of a path, with all its dates in one list
abbrev pub report_text : BookValue → List ℕ → List ℕ → List ℕ
report_text b path dates = runs_line (suc (length path)) ++ lines_text b path dates (suc (length path))
