-- What the parts of the judge answer.
use Rattle.std.specs.Prelude.{◌≡◌, ℕ, List, length, Ok, Err, Result, ◌≢◌}
use Rattle.bookformat.specs.declared.fault.Fault.{Fault}
use Rattle.bookformat.specs.declared.fault.Fault.TheVariants.{BadLinkNumber, WrongDateCount}
use Rattle.bookformat.specs.Values.{BookValue}
use Rattle.paths.specs.Listing.{events_of}
use Rattle.judge.specs.Judging.{FirstAtFault, GoodPath}

-- the smallest position at fault, or that there is none
pub data PathChecked (b : BookValue) (path : List ℕ) {X : Type 0} (r : Result X Fault) : Type 0 where
  fault : (k : ℕ) → FirstAtFault b path k → r ≡ Err (BadLinkNumber k) → PathChecked b path r
  fine : (x : X) → GoodPath b path → r ≡ Ok x → PathChecked b path r

-- whether there are as many dates as the path has events
abbrev pub CountChecked : {X : Type 0} → BookValue → List ℕ → List ℕ → Result X Fault → Type 0
CountChecked b path dates (Ok x) = length dates ≡ events_of b path
CountChecked b path dates (Err f) = (length dates ≢ events_of b path) × (f ≡ WrongDateCount (events_of b path))
