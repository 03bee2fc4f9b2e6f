-- The text of a notice, and what writing a text answers.
use Rattle.std.specs.Prelude.{◌≡◌, ℕ, ◌<◌, ◌≤◌, List, [], ◌∷◌, ◌++◌, length, drop, Ok, Err, codes, decimal, Result}
use Rattle.bookformat.specs.declared.fault.Fault.{Fault}
use Rattle.bookformat.specs.declared.fault.Fault.TheVariants.{TooLittleSpace}
use Rattle.bookformat.specs.declared.fault.Refusal.{Refusal}
use Rattle.bookformat.specs.Refusals.{refusal}

-- a space, and a line feed
abbrev pub blank : ℕ
blank = 0x20

abbrev pub feed : ℕ
feed = 0x0a

-- a number in decimal, and a byte behind it
abbrev pub number_text : ℕ → ℕ → List ℕ
number_text n ending = decimal n ++ (ending ∷ [])

abbrev pub refusal_text : Refusal → List ℕ
refusal_text r = codes "refused " ++ (number_text r.number blank ++ (number_text r.layer blank ++ number_text r.place feed))

abbrev pub notice_text : Fault → List ℕ
notice_text f = refusal_text (refusal f)

-- the text goes to the front of the space, and what lies behind it stays; where there is too little space nothing is written
abbrev pub Writes : List ℕ → List ℕ → List ℕ → Result ℕ Fault → Type 0
Writes text before after (Ok n) = (n ≡ length text) × (n ≤ length before) × (after ≡ text ++ drop n before)
Writes text before after (Err f) = (length before < length text) × (f ≡ TooLittleSpace (length text)) × (after ≡ before)
