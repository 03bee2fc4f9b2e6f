-- When a station is silent.
use Rattle.std.proofs.Common.{◌≡◌, ◌≢◌, ℕ, zero, suc, ◌<◌, Bool, true, false, not, eqb, List, [], ◌∷◌, length, sym, refl, arith}
use Rattle.std.specs.List.{AllWithin, HoldsAt}
use Rattle.std.specs.Prelude.{MatchBool}
use Rattle.std.proofs.lemmas.Bool.{and_from, and_left, and_right, ne_eqb, eq-eqb, not_from_false, not_from_true}
use Rattle.bookformat.specs.declared.value.Event.{Event}
use Rattle.bookformat.specs.Rules.{event, no_event, Silent}
use Rattle.bookformat.specs.Reading.{is_silent}

pub silent_true : (es : List Event) (p : ℕ) → Silent es p → is_silent es p ≡ true
silent_true [] p none = refl
silent_true (e ∷ es) p none =
    and_from (not (eqb e.station p)) (is_silent es p)
    (not_from_false (eqb e.station p) (ne_eqb e.station p (none 0 (omega arith))))
    (silent_true es p (λ k h. none (suc k) (omega arith)))

pub silent_false : (es : List Event) (p k : ℕ) → k < length es → (event es k).station ≡ p → is_silent es p ≡ false
silent_false [] p k h is = absurd (omega arith)
silent_false (e ∷ es) p zero h is =
    and_left (not (eqb e.station p)) (is_silent es p) (not_from_true (eqb e.station p) (eq-eqb e.station p is))
silent_false (e ∷ es) p (suc k) h is = and_right (not (eqb e.station p)) (is_silent es p) (silent_false es p k (omega arith) is)

-- the answer of a search through the events
pub silent_is : (r : Bool) (es : List Event) (p : ℕ) → MatchBool r (AllWithin (λ e. e.station ≢ p) es 0 (length es)) ((k : ℕ) × (k < length es) × HoldsAt (λ e. e.station ≡ p) es k) → r ≡ is_silent es p
silent_is true es p all = sym (silent_true es p (λ k h. all k no_event (omega arith) h))
silent_is false es p at = sym (silent_false es p at.0 at.1 (at.2 no_event))
