-- The number, the layer and the place of each fault. Layers: 1 bytes, 2 chart, 3 link, 4 call.
use Rattle.std.specs.Prelude.{ℕ, List, ◌∷◌, ◌++◌, decimal}
use Rattle.bookformat.specs.declared.fault.Fault.{Fault}
use Rattle.bookformat.specs.declared.fault.Fault.TheVariants.{RecordCut, WrongMark, WrongVersion, FieldOutOfRange, TrailingBytes, BadEvent, NotDirectlyBefore, BadConstraintInterval, BadLinkInterval, CyclicOrder, NoSuchChart, IntervalNotDue, NoCapacity, Idle, NotRunning, OffPath, TooLittleSpace, BadLinkNumber, WrongDateCount}
use Rattle.bookformat.specs.declared.fault.Refusal.{Refusal}

abbrev told : ℕ → ℕ → ℕ → Refusal
told n l p = record { number = n; layer = l; place = p }

abbrev pub refusal : Fault → Refusal
refusal (RecordCut at) = told 1 1 at
refusal WrongMark = told 2 1 0
refusal WrongVersion = told 2 1 3
refusal (FieldOutOfRange at) = told 3 1 at
refusal (TrailingBytes at) = told 4 1 at
refusal (BadEvent at) = told 5 2 at
refusal (NotDirectlyBefore at) = told 6 2 at
refusal (BadConstraintInterval at) = told 7 2 at
refusal (BadLinkInterval at) = told 7 3 at
refusal (CyclicOrder at) = told 8 2 at
refusal (NoSuchChart at) = told 9 3 at
refusal (IntervalNotDue at) = told 10 3 at
refusal NoCapacity = told 11 4 0
refusal Idle = told 12 4 0
refusal NotRunning = told 13 4 0
refusal (OffPath charts) = told 14 4 charts
refusal (TooLittleSpace needed) = told 15 4 needed
refusal (BadLinkNumber position) = told 16 4 position
refusal (WrongDateCount needed) = told 17 4 needed

-- the text of a refusal: the word, and the numbers in decimal, each behind a space
abbrev pub refused : Refusal → List ℕ
refused told = 114 ∷ 101 ∷ 102 ∷ 117 ∷ 115 ∷ 101 ∷ 100 ∷ 32 ∷ (decimal told.number ++ (32 ∷ (decimal told.layer ++ (32 ∷ decimal told.place))))
