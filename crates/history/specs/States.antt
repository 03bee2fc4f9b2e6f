-- The states of an examination.
use Rattle.std.specs.Prelude.{ℕ, List, codes}
use Rattle.history.specs.declared.phase.State.{State}
use Rattle.history.specs.declared.phase.State.TheVariants.{Idle, Open, Runs, Empty, Spent}

-- the number of a state
abbrev pub code : State → ℕ
code Idle = 0
code Open = 1
code Runs = 2
code Empty = 3
code Spent = 4

-- the word for a state
abbrev pub word_text : State → List ℕ
word_text Idle = codes "idle"
word_text Open = codes "open"
word_text Runs = codes "runs"
word_text Empty = codes "empty"
word_text Spent = codes "spent"
