-- What a reader answers.
use Rattle.std.specs.Prelude.{◌≡◌, List, Some, None, Ok, Err, Result}
use Rattle.bookformat.specs.declared.fault.Fault.{Fault}
use Rattle.bookformat.specs.Reading.{Test, first_fault}

-- a value where every test holds, else the fault of the first that fails
abbrev pub Tested : {T : Type 0} → Result T Fault → List Test → (T → Type 0) → Type 0
Tested (Ok x) tests Q = (first_fault tests ≡ None) × Q x
Tested (Err f) tests Q = first_fault tests ≡ Some f
