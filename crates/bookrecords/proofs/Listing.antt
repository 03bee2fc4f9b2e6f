-- A list of records, as far as it is read.
use Rattle.std.proofs.Common.{◌≡◌, ℕ, ◌+◌, ◌*◌, ◌<◌, List, [], ◌∷◌, ◌++◌, length, IsErrAnd, Some, None, Result, ap, ◌∙◌, subst}
use Rattle.bookformat.specs.declared.fault.Fault.{Fault}
use Rattle.bookformat.specs.Layout.{records}
use Rattle.bookformat.specs.Reading.{Test, first_fault, each}
use Rattle.bookformat.proofs.Faults.{each_fails, each_passes}
use Rattle.bookrecords.specs.Answers.{Tested}
use Rattle.bookrecords.proofs.Exits.{hands_on, records_more}

-- the first k records, each of which passed its tests
abbrev pub SoFar : {X : Type 0} → (ℕ → List Test) → (ℕ → X) → ℕ → ℕ → ℕ → List X → Type 0
SoFar tests at size place k xs =
    (first_fault (each (λ j. tests (place + size * j)) k) ≡ None)
    × (xs ≡ records at size place k)
    × (length xs ≡ k)

module _ {X : Type 0} (tests : ℕ → List Test) (at : ℕ → X) (size place k : ℕ) (xs : List X) (so_far : SoFar tests at size place k xs) (width : ℕ) (is : width ≡ size) where
  here : place + width * k ≡ place + size * k
  here = ap (λ n. place + n * k) is

  -- the list that a reader gives up, since the next record fails a test
  pub list_refused : {Y : Type 0} (r : Result Y Fault) (Q : Y → Type 0) (f : Fault) (count : ℕ) → IsErrAnd r (λ e. e ≡ f) → k < count → first_fault (tests (place + width * k)) ≡ Some f → Tested r (each (λ j. tests (place + size * j)) count) Q
  list_refused r Q f count by more fails =
      hands_on r _ Q f by
      (each_fails (λ j. tests (place + size * j)) count k _ more so_far.0
      (subst (λ p. first_fault (tests p) ≡ Some f) here fails))

  -- one record more
  pub list_more : (ys : List X) (x : X) → first_fault (tests (place + width * k)) ≡ None → x ≡ at (place + width * k) → ys ≡ xs ++ x ∷ [] → length ys ≡ length xs + 1 → SoFar tests at size place (k + 1) ys
  list_more ys x passes is_at pushed len = (
    each_passes (λ j. tests (place + size * j)) k so_far.0 (subst (λ p. first_fault (tests p) ≡ None) here passes),
    records_more at size place k xs ys x pushed so_far.1 (is_at ∙ ap at here),
    len ∙ ap (λ n. n + 1) so_far.2,
  )
