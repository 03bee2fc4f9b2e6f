-- What closing a table of bounds answers.
use Rattle.std.proofs.Common.{◌≡◌, ℕ, true, false, Ok, Err, Result, is_ok, List}
use Rattle.std.proofs.lemmas.Bool.{true≢false, false≢true}
use Rattle.closure.specs.declared.kinds.Ticks.{Ticks}
use Rattle.closure.specs.declared.tables.Unclosed.{Unclosed}
use Rattle.closure.specs.declared.tables.Unclosed.TheVariants.{WrongSize, OutOfRange, BadCycle}
use Rattle.closure.specs.Closings.{Closes}
use Rattle.closure.specs.Tickings.{ticks_meaning}
use Rattle.paths.specs.Bounds as bounds
use Rattle.paths.specs.Tables.{Entry, ShortestWalks}
use Rattle.steps.specs.Tables.{table_of, Usable}
use Rattle.steps.proofs.Bridge.{bad_cycle, shortest}

module _ (n : ℕ) (l m : List Ticks) where
  pub closed : (r : Result (Unit {0}) Unclosed) → Closes ticks_meaning n l m r → is_ok r ≡ true → ShortestWalks n (table_of n l) (table_of n m)
  closed (Ok done) h ok = shortest n (table_of n l) (table_of n m) h.2
  closed (Err e) h ok = absurd (false≢true ok)

  pub unclosed : (r : Result (Unit {0}) Unclosed) → Usable n l → Closes ticks_meaning n l m r → is_ok r ≡ false → bounds.BadCycle (Entry n (table_of n l))
  unclosed (Ok done) usable h fails = absurd (true≢false fails)
  unclosed (Err WrongSize) usable h fails = absurd (h.0 usable.sized)
  unclosed (Err (OutOfRange p)) usable h fails = absurd (h.1.beyond (usable.given p h.1.within))
  unclosed (Err (BadCycle p)) usable h fails = bad_cycle n (table_of n l) p h.2
