-- The order of a chart by its test.
use Rattle.std.proofs.Common.{◌≡◌, ℕ, zero, suc, ◌<◌, Bool, true, false, not, ◌&&◌, ◌⊎◌, List, length, Decides, sym, refl, subst, inl, inr, ⊎_elim, arith}
use Rattle.std.proofs.lemmas.Bool.{and_parts, and_from, or_cases, or_left, or_right, not-true, not_from_false, cases_eq, cases_Bool, both_ways}
use Rattle.bookformat.specs.declared.value.Event.{Event}
use Rattle.bookformat.specs.Rules.{DirectlyBefore, listed_later, its_receive, ComesBefore, directly, onward, Acyclic}
use Rattle.bookformat.specs.Reading.{is_directly_before, is_before_by, none_below, is_acyclic}
use Rattle.bookformat.proofs.Tests.{decides_before}

-- the first event of a step is one of the chart
direct_first : (es : List Event) {e f : ℕ} → DirectlyBefore es e f → e < length es
direct_first es (listed_later lt in_chart same) = omega arith
direct_first es (its_receive in_chart sends is) = in_chart

pub comes_first : (es : List Event) {e f : ℕ} → ComesBefore es e f → e < length es
comes_first es (directly d) = direct_first es d
comes_first es (onward g d rest) = direct_first es d

comes_trans : (es : List Event) {e g f : ℕ} → ComesBefore es e g → ComesBefore es g f → ComesBefore es e f
comes_trans es {e} {g} {f} (directly d) after = onward g d after
comes_trans es (onward h d rest) after = onward h d (comes_trans es rest after)

module _ (es : List Event) where
  abbrev By : ℕ → ℕ → ℕ → Type 0
  By m e f = is_before_by es m e f ≡ true

  -- what the recursion finds is so
  pub comes_by : (m e f : ℕ) → By m e f → ComesBefore es e f
  comes_by zero e f t = directly ((decides_before es e f).0 t)
  comes_by (suc m) e f t =
      ⊎_elim
      (comes_by m e f)
      (λ b. let p = and_parts (is_before_by es m e m) (is_before_by es m m f) b in comes_trans es (comes_by m e m p.0) (comes_by m m f p.1))
      (or_cases (is_before_by es m e f) (is_before_by es m e m && is_before_by es m m f) t)

  kept : (m e f : ℕ) → By m e f → By (suc m) e f
  kept m e f t = or_left (is_before_by es m e f) (is_before_by es m e m && is_before_by es m m f) t

  round : (m e f : ℕ) → By m e m → By m m f → By (suc m) e f
  round m e f a b = or_right (is_before_by es m e f) (is_before_by es m e m && is_before_by es m m f) (and_from (is_before_by es m e m) (is_before_by es m m f) a b)

  ways : (m e f : ℕ) → By (suc m) e f → By m e f ⊎ (By m e m × By m m f)
  ways m e f t = ⊎_elim (λ a. inl a) (λ b. inr (and_parts (is_before_by es m e m) (is_before_by es m m f) b)) (or_cases (is_before_by es m e f) (is_before_by es m e m && is_before_by es m m f) t)

  -- to m and from m, m itself is no way round
  to_last : (m e : ℕ) → By (suc m) e m → By m e m
  to_last m e t = ⊎_elim (λ a. a) (λ b. b.0) (ways m e m t)

  from_last : (m f : ℕ) → By (suc m) m f → By m m f
  from_last m f t = ⊎_elim (λ a. a) (λ b. b.1) (ways m m f t)

  -- a way through an event below m is found
  through : (m k e f : ℕ) → k < m → By m e k → By m k f → By m e f
  through zero k e f lt a b = absurd (omega arith)
  through (suc m) k e f lt a b =
      ⊎_elim
      (λ is. round m e f (to_last m e (subst (λ j. By (suc m) e j) is a)) (from_last m f (subst (λ j. By (suc m) j f) is b)))
      (λ ne.
      let below : k < m = omega arith in
      ⊎_elim
      (λ a1. ⊎_elim (λ b1. kept m e f (through m k e f below a1 b1)) (λ b2. round m e f (through m k e m below a1 b2.0) b2.1) (ways m k f b))
      (λ a2. ⊎_elim (λ b1. round m e f a2.0 (through m k m f below a2.1 b1)) (λ b2. round m e f a2.0 b2.1) (ways m k f b))
      (ways m e k a))
      (cases_eq k m)

  straight : (m e f : ℕ) → is_directly_before es e f ≡ true → By m e f
  straight zero e f t = t
  straight (suc m) e f t = kept m e f (straight m e f t)

  -- the recursion finds what is so
  pub by_comes : {e f : ℕ} → ComesBefore es e f → By (length es) e f
  by_comes {e} {f} (directly d) = straight (length es) e f ((decides_before es e f).1 d)
  by_comes {e} {f} (onward g d rest) = through (length es) g e f (comes_first es rest) (straight (length es) e g ((decides_before es e g).1 d)) (by_comes rest)

none_below_lem : (p : ℕ → Bool) (n k : ℕ) → none_below p n ≡ true → k < n → p k ≡ false
none_below_lem p zero k t lt = absurd (omega arith)
none_below_lem p (suc n) k t lt =
    let parts = and_parts (none_below p n) (not (p n)) t in
    ⊎_elim (λ is. subst (λ j. p j ≡ false) (sym is) (not-true (p n) parts.1)) (λ ne. none_below_lem p n k parts.0 (omega arith)) (cases_eq k n)

below_none : (p : ℕ → Bool) (n : ℕ) → ((k : ℕ) → k < n → p k ≡ false) → none_below p n ≡ true
below_none p zero all = refl
below_none p (suc n) all = and_from (none_below p n) (not (p n)) (below_none p n (λ k lt. all k (omega arith))) (not_from_false (p n) (all n (omega arith)))

-- the test decides whether no event comes before itself
pub decides_acyclic : (es : List Event) → Decides (is_acyclic es) (Acyclic es)
decides_acyclic es = (
  λ t e c. both_ways (is_before_by es (length es) e e) (none_below_lem (λ k. is_before_by es (length es) k k) (length es) e t (comes_first es c)) (by_comes es c),
  λ none.
      below_none (λ e. is_before_by es (length es) e e) (length es)
      (λ e lt. ⊎_elim (λ t. absurd (none e (comes_by es (length es) e e t))) (λ f. f) (cases_Bool (is_before_by es (length es) e e))),
)
