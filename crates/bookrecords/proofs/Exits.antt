-- What a reader answers where a reader that it calls refuses, and in its loops.
use Rattle.std.proofs.Common.{◌≡◌, ℕ, ◌+◌, ◌*◌, ◌≤◌, leb, List, [], ◌∷◌, ◌++◌, length, IsErrAnd, Some, Ok, Err, Result, sym, ap, ◌∙◌, zero-add}
use Rattle.std.proofs.lemmas.List.FromFn.{map-range_with_len_more}
use Rattle.std.proofs.lemmas.Bool.{le-leb, cond-true}
use Rattle.bookformat.specs.declared.fault.Fault.{Fault}
use Rattle.bookformat.specs.declared.fault.Fault.TheVariants.{RecordCut}
use Rattle.bookformat.specs.Layout.{records}
use Rattle.bookformat.specs.Reading.{Test, first_fault, lies}
use Rattle.bookformat.proofs.Faults.{none_cons}
use Rattle.bookrecords.specs.Answers.{Tested}

-- the exit of a `?` hands the fault on
pub hands_on : {T : Type 0} (r : Result T Fault) (tests : List Test) (Q : T → Type 0) (f : Fault) → IsErrAnd r (λ e. e ≡ f) → first_fault tests ≡ Some f → Tested r tests Q
hands_on (Ok x) tests Q f by first = absurd by
hands_on (Err e) tests Q f by first = first ∙ ap Some (sym by)

-- one record more
pub records_more : {X : Type 0} (read : ℕ → X) (width place k : ℕ) (xs ys : List X) (x : X) → ys ≡ xs ++ x ∷ [] → xs ≡ records read width place k → x ≡ read (place + width * k) → ys ≡ records read width place (k + 1)
records_more {X} read width place k xs ys x pushed before is =
    pushed ∙ ap (λ (l : List X). l ++ x ∷ []) before ∙ ap (λ (y : X). records read width place k ++ y ∷ []) is
    ∙ sym (map-range_with_len_more (λ j. read (place + width * j)) 0 k k (zero-add k))

-- a record that lies in the book is judged by its fields
pub in_book : {T : Type 0} (r : Result T Fault) (b : List ℕ) (place len : ℕ) (fields : List Test) (Q : T → Type 0) → place + len ≤ length b → Tested r fields Q → Tested r (lies b place len ∷ fields) Q
in_book (Ok x) b place len fields Q h (first, q) = (none_cons (leb (place + len) (length b)) (RecordCut place) fields (le-leb (place + len) (length b) h) first, q)
in_book (Err f) b place len fields Q h first = cond-true (leb (place + len) (length b)) (first_fault fields) (Some (RecordCut place)) (le-leb (place + len) (length b) h) ∙ first
