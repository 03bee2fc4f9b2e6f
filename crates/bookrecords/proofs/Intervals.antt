-- Intervals and constraints out of the bytes of a record.
use Rattle.std.proofs.Common.{◌≡◌, ℕ, ◌+◌, ◌*◌, ◌<◌, ◌≤◌, List, length, get_or, Result, ap, ◌∙◌, subst, arith}
use Rattle.bookformat.specs.declared.fault.Fault.{Fault}
use Rattle.bookformat.specs.declared.value.Event.{Event}
use Rattle.bookformat.specs.declared.value.Interval.{Interval}
use Rattle.bookformat.specs.declared.value.Constraint.{Constraint}
use Rattle.bookformat.specs.Layout.{byte, end_of, interval_at, constraint_at}
use Rattle.bookformat.specs.Reading.{constraint_fields, constraint_tests}
use Rattle.bookrecords.specs.Answers.{Tested}
use Rattle.bookrecords.proofs.Exits.{in_book}

-- the interval of four bytes
abbrev pub interval4 : ℕ → ℕ → ℕ → ℕ → Interval
interval4 a b c d = record { lower = a * 256 + b; upper = end_of (c * 256 + d) }

-- bytes k to k + 3 of a part say the interval at that place of the book
pub interval_read : (b part : List ℕ) (place len k : ℕ) → ((j : ℕ) → j < len → get_or part j 0 ≡ byte b (place + j)) → k + 4 ≤ len → interval4 (get_or part k 0) (get_or part (k + 1) 0) (get_or part (k + 2) 0) (get_or part (k + 3) 0) ≡ interval_at b (place + k)
interval_read b part place len k bytes h =
    let shift : (j : ℕ) → k + j < len → get_or part (k + j) 0 ≡ byte b (place + k + j) = λ j lt. bytes (k + j) lt ∙ ap (byte b) (omega arith) in
    let e0 : get_or part k 0 ≡ byte b (place + k) = bytes k (omega arith) in
    let e1 : get_or part (k + 1) 0 ≡ byte b (place + k + 1) = shift 1 (omega arith) in
    let e2 : get_or part (k + 2) 0 ≡ byte b (place + k + 2) = shift 2 (omega arith) in
    let e3 : get_or part (k + 3) 0 ≡ byte b (place + k + 2 + 1) = shift 3 (omega arith) ∙ ap (byte b) (omega arith) in
    cc

-- the same in the part itself
pub interval_here : (part : List ℕ) (k : ℕ) → interval4 (get_or part k 0) (get_or part (k + 1) 0) (get_or part (k + 2) 0) (get_or part (k + 3) 0) ≡ interval_at part k
interval_here part k = let e : get_or part (k + 3) 0 ≡ byte part (k + 2 + 1) = ap (byte part) (omega arith) in cc

pub constraint_read : (b part : List ℕ) (es : List Event) (place : ℕ) (i : Interval) (r : Result Constraint Fault) → place + 6 ≤ length b → ((j : ℕ) → j < 6 → get_or part j 0 ≡ byte b (place + j)) → i ≡ interval4 (get_or part 2 0) (get_or part 3 0) (get_or part 4 0) (get_or part 5 0) → Tested r (constraint_fields es (get_or part 0 0) (get_or part 1 0) i place) (λ c. c ≡ record { first = get_or part 0 0; second = get_or part 1 0; interval = i }) → Tested r (constraint_tests b es place) (λ c. c ≡ constraint_at b place)
constraint_read b part es place i r h bytes is t =
    let Family : ℕ → ℕ → Interval → Type 0 = λ x y j. Tested r (constraint_fields es x y j place) (λ c. c ≡ record { first = x; second = y; interval = j }) in
    let e0 : get_or part 0 0 ≡ byte b place = bytes 0 (omega arith) ∙ ap (byte b) (omega arith) in
    let e1 : get_or part 1 0 ≡ byte b (place + 1) = bytes 1 (omega arith) in
    let e2 : i ≡ interval_at b (place + 2) = is ∙ interval_read b part place 6 2 bytes (omega arith) in
    in_book r b place 6 _ _ h (subst (λ j. Family (byte b place) (byte b (place + 1)) j) e2 (subst (λ y. Family (byte b place) y i) e1 (subst (λ x. Family x (get_or part 1 0) i) e0 t)))
