-- How dates rise, one demand after another.
use Rattle.std.proofs.Common.{◌≡◌, ℕ, ◌+◌, ◌-◌, ◌^◌, ◌<◌, ◌≤◌, Bool, true, false, ◌||◌, ltb, List, length, get_or, set, Some, None, sum, Option, sym, refl, ap, ◌∙◌, subst, arith, below_more}
use native.Mathlib.Decide.{ℕ_discrete}
use Rattle.std.proofs.lemmas.List.Sums.{sum_by-set}
use Rattle.std.proofs.lemmas.List.{length-set, get_or-set_same, get_or-set_other}
use Rattle.std.proofs.lemmas.Bool.{true≢false, or_parts}
use Rattle.bookformat.specs.declared.value.Interval.{Interval}
use Rattle.bookformat.specs.declared.value.Event.{Event}
use Rattle.bookformat.specs.declared.value.Constraint.{Constraint}
use Rattle.bookformat.specs.Values.{BookValue}
use Rattle.bookformat.specs.Reading.{is_directly_before}
use Rattle.bookformat.proofs.Tests.{decides_before}
use Rattle.paths.specs.Datings.{Within, drift_of}
use Rattle.earliest.specs.Raising.{date_at, Below, Small, Rises, Raises, later, sooner}
use Rattle.earliest.specs.Demands.{Each, BeforeKept, listed, ConstraintKept, DriftKept}

-- One date

pub raised : (l : List ℕ) (i v : ℕ) → i < length l → get_or l i 0 < v → v < 2 ^ 32 → Raises (λ z. v ≤ z i) l (set l i v) true
raised l i v inside low small = record {
  long = length-set l i v;
  under = λ z k b j h. elim (ℕ_discrete j i) [
    | yes e ↦ subst (λ n. get_or (set l i v) n 0 ≤ z n) (sym e) (omega (arith, get_or-set_same l i v 0 inside))
    | no ne ↦ omega (arith, get_or-set_other l i j v 0 ne, b j (omega (arith, length-set l i v)))
  ];
  same = λ e. absurd (true≢false e);
  kept = λ e s. absurd (true≢false e);
  more = λ e. omega (arith, sum_by-set (λ x. x) l i v 0 inside);
  fits = λ f j h. elim (ℕ_discrete j i) [
    | yes e ↦ subst (λ n. get_or (set l i v) n 0 < 2 ^ 32) (sym e) (omega (arith, get_or-set_same l i v 0 inside))
    | no ne ↦ omega (arith, get_or-set_other l i j v 0 ne, f j (omega (arith, length-set l i v)))
  ];
}

-- More than one

module _ {A K A' K' : (ℕ → ℕ) → Type 0} {l m : List ℕ} {c : Bool} where
  -- more is asked, and less is shown
  pub weaken : ((z : ℕ → ℕ) → A' z → A z) → ((z : ℕ → ℕ) → K z → K' z) → Rises A K l m c → Rises A' K' l m c
  weaken asked shown r = record { long = r.long; under = λ z a b. r.under z (asked z a) b; same = r.same; kept = λ e s. shown (date_at l) (r.kept e s); more = r.more; fits = r.fits }

pub nothing : (A : (ℕ → ℕ) → Type 0) (l : List ℕ) → Rises A (λ _. Unit {0}) l l false
nothing A l = record { long = refl; under = λ z k b. b; same = λ e. refl; kept = λ e s. tt; more = λ e. absurd (true≢false (sym e)); fits = λ f. f }

more_than : (l m n : List ℕ) (c d : Bool) → (c ≡ false → m ≡ l) → (d ≡ false → n ≡ m) → (c ≡ true → sum l < sum m) → (d ≡ true → sum m < sum n) → (c || d) ≡ true → sum l < sum n
more_than l m n true true s t p q e = omega (arith, p refl, q refl)
more_than l m n true false s t p q e = omega (arith, p refl, ap sum (t refl))
more_than l m n false true s t p q e = omega (arith, q refl, ap sum (s refl))
more_than l m n false false s t p q e = absurd (true≢false (sym e))

-- one after the other
pub then : {A K K' : (ℕ → ℕ) → Type 0} {l m n : List ℕ} {c d : Bool} → Rises A K l m c → Rises A K' m n d → Rises A (λ z. K z × K' z) l n (c || d)
then {A} {K} {K'} {l} {m} {n} {c} {d} r s = record {
  long = s.long ∙ r.long;
  under = λ z a b. s.under z a (r.under z a b);
  same = λ e. let p = or_parts c d e in s.same p.1 ∙ r.same p.0;
  kept = λ e small.
      let p = or_parts c d e in
      (r.kept p.0 small, subst (λ (x : List ℕ). K' (date_at x)) (r.same p.0) (s.kept p.1 (subst Small (sym (r.same p.0)) small)));
  more = more_than l m n c d r.same s.same r.more s.more;
  fits = λ f. s.fits (r.fits f);
}

-- once more after a change
pub again : {K : (ℕ → ℕ) → Type 0} {l m n : List ℕ} {d : Bool} → Raises K l m true → Rises K (λ _. Unit {0}) m n d → Raises K l n true
again r s = weaken (λ z k. k) (λ z k. k.0) (then r s)

pub onward : {K K' : (ℕ → ℕ) → Type 0} {l m n : List ℕ} {c d : Bool} → Rises K (λ _. Unit {0}) l m c → Rises K K' m n d → Rises K (λ _. Unit {0}) l n (c || d)
onward r s = weaken (λ z k. k) (λ z k. tt) (then r s)

pub both : {K K' : (ℕ → ℕ) → Type 0} {l m n : List ℕ} {c d : Bool} → Raises K l m c → Raises K' m n d → Raises (λ z. K z × K' z) l n (c || d)
both r s = then (weaken (λ z p. p.0) (λ z k. k) r) (weaken (λ z p. p.1) (λ z k. k) s)

-- the demand of one number more
pub one_more : (Q : ℕ → (ℕ → ℕ) → Type 0) (p : ℕ) {l m n : List ℕ} {c d : Bool} → Raises (Each p Q) l m c → Raises (Q p) m n d → Raises (Each (p + 1) Q) l n (c || d)
one_more Q p r s = weaken (λ z all. (λ k h. all k (omega arith), all p (omega arith))) (λ z k. below_more (λ j. Q j z) p k.0 k.1) (both r s)

-- of all
pub all_met : (Q : ℕ → (ℕ → ℕ) → Type 0) (p q : ℕ) {l m : List ℕ} {c : Bool} → p ≤ q → q ≤ p → Raises (Each p Q) l m c → Raises (Each q Q) l m c
all_met Q p q {l} {m} {c} h g r = subst (λ n. Raises (Each n Q) l m c) (omega arith) r

-- a demand that a raise to a value meets
pub by_value : {K : (ℕ → ℕ) → Type 0} {l m : List ℕ} {i v : ℕ} {c : Bool} → ((z : ℕ → ℕ) → K z → Below l z → v ≤ z i) → (Small l → v ≤ get_or l i 0 → K (date_at l)) → Raises (λ z. v ≤ z i) l m c → Raises K l m c
by_value asked shown r = record { long = r.long; under = λ z k b. r.under z (asked z k b) b; same = r.same; kept = λ e s. shown s (r.kept e s); more = r.more; fits = r.fits }

-- An interval

some_same : {u v : ℕ} → Some u ≡ Some v → u ≡ v
some_same e = cc

none_apart : (v : ℕ) → ◌≡◌ {A = Option ℕ} None (Some v) → ⊥
none_apart v e = let z : ◌≡◌ {A = ℕ} 0 1 = cc in omega arith

lower_met : {l m : List ℕ} {c : Bool} (first second lower v : ℕ) → first < length l → lower ≤ 10000 → v ≡ later (get_or l first 0) lower → Raises (λ z. v ≤ z second) l m c → Raises (λ z. z first + lower ≤ z second) l m c
lower_met first second lower v inside few is r =
    by_value (λ z k b. omega (arith, b first inside, is)) (λ s h. omega (arith, s first inside, is)) r

-- y is at most the upper end after x, if there is one
abbrev NotOver : Option ℕ → ℕ → ℕ → Type 0
NotOver o x y = (u : ℕ) → o ≡ Some u → y ≤ x + u

sooner_asked : (o : Option ℕ) (x y date : ℕ) → date ≤ y → NotOver o x y → sooner date o ≤ x
sooner_asked None x y date h k = omega arith
sooner_asked (Some u) x y date h k = omega (arith, k u refl)

sooner_shown : (o : Option ℕ) (x y : ℕ) → sooner y o ≤ x → NotOver o x y
sooner_shown None x y h u is = absurd (none_apart u is)
sooner_shown (Some t) x y h u is = omega (arith, some_same is)

upper_met : {l m : List ℕ} {c : Bool} (first second v : ℕ) (upper : Option ℕ) → second < length l → v ≡ sooner (get_or l second 0) upper → Raises (λ z. v ≤ z first) l m c → Raises (λ z. NotOver upper (z first) (z second)) l m c
upper_met {l} first second v upper inside is r =
    by_value (λ z k b. omega (arith, is, sooner_asked upper (z first) (z second) (get_or l second 0) (b second inside) k)) (λ s h. sooner_shown upper (get_or l first 0) (get_or l second 0) (omega (arith, is))) r

pub interval_met : {l m n : List ℕ} {c d : Bool} (i : Interval) (first second v w : ℕ) → first < length l → second < length l → i.lower ≤ 10000 → v ≡ later (get_or l first 0) i.lower → Raises (λ z. v ≤ z second) l m c → w ≡ sooner (get_or m second 0) i.upper → Raises (λ z. w ≤ z first) m n d → Raises (λ z. Within i (z first) (z second)) l n (c || d)
interval_met i first second v w one two few v-is r w-is s = weaken
    (λ z k. (k.not_under, k.not_over))
    (λ z k. record { not_under = k.0; not_over = k.1 })
    (both (lower_met first second i.lower v one few v-is r) (upper_met first second w i.upper (omega (arith, r.long)) w-is s))

-- Two events in their order, or in none

pub order_met : {l m : List ℕ} {c : Bool} (es : List Event) (first e f : ℕ) → first + e < length l → is_directly_before es e f ≡ true → Raises (λ z. get_or l (first + e) 0 ≤ z (first + f)) l m c → Raises (BeforeKept es first e f) l m c
order_met es first e f inside is r = by_value (λ z k b. omega (arith, k ((decides_before es e f).0 is), b (first + e) inside)) (λ s h d. h) r

pub no_order : (l : List ℕ) (es : List Event) (first e f : ℕ) → is_directly_before es e f ≡ false → Raises (BeforeKept es first e f) l l false
no_order l es first e f is = weaken (λ z k. tt) (λ z _ d. absurd (true≢false (sym ((decides_before es e f).1 d) ∙ is))) (nothing (λ _. Unit {0}) l)

-- A constraint, and a drift bound

pub constraint_met : {l m : List ℕ} {c : Bool} (cs : List Constraint) (first k e f : ℕ) (i : Interval) → e ≡ (listed cs k).first → f ≡ (listed cs k).second → i ≡ (listed cs k).interval → Raises (λ z. Within i (z (first + e)) (z (first + f))) l m c → Raises (ConstraintKept cs first k) l m c
constraint_met {l} {m} {c} cs first k e f i p q r s =
    subst (λ (x : Interval). Raises (λ z. Within x (z (first + (listed cs k).first)) (z (first + (listed cs k).second))) l m c) r
    (subst (λ (x : ℕ). Raises (λ z. Within i (z (first + (listed cs k).first)) (z (first + x))) l m c) q
    (subst (λ (x : ℕ). Raises (λ z. Within i (z (first + x)) (z (first + f))) l m c) p s))

pub drift_met : {l m : List ℕ} {c : Bool} (b : BookValue) (working first e f v : ℕ) → first + e < length l → v ≡ get_or l (first + e) 0 - drift_of b (ltb e working) (ltb f working) → Raises (λ z. v ≤ z (first + f)) l m c → Raises (DriftKept b working first e f) l m c
drift_met b working first e f v inside is r = by_value (λ z k b. omega (arith, k, b (first + e) inside, is)) (λ s h. omega (arith, is)) r
