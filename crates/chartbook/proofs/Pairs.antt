-- The tests of the events' pairing, in turn.
use Rattle.std.proofs.Common.{◌≡◌, ℕ, zero, suc, ◌+◌, ◌*◌, ◌<◌, ◌≤◌, true, false, List, [], length, Some, None, Option, MatchOption, refl, arith}
use Rattle.bookformat.specs.declared.fault.Fault.TheVariants.{BadEvent}
use Rattle.bookformat.specs.declared.value.Event.{Event}
use Rattle.bookformat.specs.Reading.{first_fault, each, is_paired, pair_tests}
use Rattle.chartbook.specs.Answers.{AllPaired, FirstUnpaired}
use Rattle.bookformat.proofs.Faults.{each_fails, none_join, none_cons, some_head}

pub first_is : (es : List Event) (r : Option ℕ) → MatchOption r ((k : ℕ) → 0 ≤ k → k < length es → is_paired es k ≡ true) (λ e. (0 ≤ e) × (e < length es) × (is_paired es e ≡ false) × ((k : ℕ) → 0 ≤ k → k < e → is_paired es k ≡ true)) → MatchOption r (AllPaired es) (FirstUnpaired es)
first_is es None all = λ k l. all k (omega arith) l
first_is es (Some e) (_, l, here, before) = (l, here, λ k h. before k (omega arith) h)

pub pairs_pass : (es : List Event) (place n : ℕ) → ((k : ℕ) → k < n → is_paired es k ≡ true) → first_fault (each (pair_tests es place) n) ≡ None
pairs_pass es place zero all = refl
pairs_pass es place (suc n) all =
    none_join (each (pair_tests es place) n) (pair_tests es place n) (pairs_pass es place n (λ k l. all k (omega arith)))
    (none_cons (is_paired es n) _ [] (all n (omega arith)) refl)

pub pairs_fail_at : (es : List Event) (place e : ℕ) → FirstUnpaired es e → first_fault (each (pair_tests es place) (length es)) ≡ Some (BadEvent (place + 3 * e))
pairs_fail_at es place e (l, here, before) =
    each_fails (pair_tests es place) (length es) e _ l (pairs_pass es place e before) (some_head (is_paired es e) _ [] here)
