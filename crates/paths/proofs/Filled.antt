-- There are tables that say exactly the rules of a chart, and of a step.
use Rattle.std.proofs.Common.{◌≡◌, ℕ, zero, suc, ◌+◌, ◌<◌, ◌≤◌, ◌⊎◌, ◌↔◌, length, ℤ, pos, neg_ℤ, ◌≤ℤ◌, Some, None, Option, sym, refl, ap, ◌∙◌, subst, subst₂, inl, inr, arith}
use mathlib.Core.Path.{fun_ext}
use native.Mathlib.Decide.{ℕ_discrete, dec_le}
use Rattle.std.proofs.lemmas.Int.{ints, clamps, by_lt_z}
use Rattle.std.specs.Int.{int_min}
use Rattle.bookformat.specs.declared.value.Interval.{Interval}
use Rattle.bookformat.specs.Values.{ChartValue, BookValue}
use Rattle.bookformat.specs.Rules.{chart, DirectlyBefore, GoodBook}
use Rattle.bookformat.specs.Reading.{is_directly_before}
use Rattle.bookformat.proofs.Tests.{decides_before}
use Rattle.paths.specs.Charts.{Working, event_count, First}
use Rattle.paths.specs.Paths.{link}
use Rattle.paths.specs.Datings.{Within, constraint, interval, drift, KeepsChart}
use Rattle.paths.specs.Profiles.{difference}
use Rattle.paths.specs.Bounds.{Keeps}
use Rattle.paths.specs.Steps.{enters, Step}
use Rattle.paths.specs.Tables.{Table, Entry, lesser, Tightens, Own, Says, SaysChart, SaysStep, step_places}
use Rattle.paths.proofs.Finite.{below_suc, choose, dec_either}
use Rattle.paths.proofs.Full.{first_event, one_first, working_exists}
use Rattle.paths.proofs.Facts.{ChartFacts, chart_facts}
use Rattle.paths.proofs.Deciding.{dec_by}

-- Tightening

-- what the lesser weight is: at most both, and one of them
lesser_is : (a : Option ℤ) (w : ℤ) → (v : ℤ) × (lesser a w ≡ Some v) × (v ≤ℤ w) × ((u : ℤ) → a ≡ Some u → v ≤ℤ u) × ((v ≡ w) ⊎ (a ≡ Some v))
lesser_is None w = (w, refl, omega (arith, ints), λ u e. let z : ◌≡◌ {A = ℕ} 0 1 = cc in absurd (omega arith), inl refl)
lesser_is (Some u) w = by_lt_z u w
    (λ h.
    let m : int_min u w ≡ u = omega (arith, ints, clamps) in
    (u, ap Some m, omega (arith, ints), λ t e. let s : u ≡ t = cc in omega (arith, ints), inr refl))
    (λ h.
    let m : int_min u w ≡ w = omega (arith, ints, clamps) in
    (w, ap Some m, omega (arith, ints), λ t e. let s : u ≡ t = cc in omega (arith, ints), inl refl))

both_or_not : (i j k m : ℕ) → ((k ≡ i) × (m ≡ j)) ⊎ ((k ≡ i) × (m ≡ j) → ⊥)
both_or_not i j k m = elim (ℕ_discrete k i) [
  | yes p ↦ elim (ℕ_discrete m j) [ yes q ↦ inl (p, q) | no q ↦ inr (λ r. q r.1) ]
  | no p ↦ inr (λ r. p r.0)
]

module _ (n : ℕ) (A : Table) (i j : ℕ) (w : ℤ) (A' : Table) where
  module _ (hi : i < n) (hj : j < n) (t : Tightens n A i j w A') where
    abbrev v : ℤ
    v = (lesser_is (A i j) w).0

    here : A' i j ≡ Some v
    here = t.here ∙ (lesser_is (A i j) w).1

    tighter : (z : ℕ → ℕ) → Keeps (Entry n A') z → Keeps (Entry n A) z × (difference (z j) (z i) ≤ℤ w)
    tighter z keeps = (λ k m u (hk, hm, e). old k m u hk hm e (both_or_not i j k m), omega (arith, ints, at, (lesser_is (A i j) w).2))
      where
        at : difference (z j) (z i) ≤ℤ v
        at = keeps i j v (hi, hj, here)

        old : (k m : ℕ) (u : ℤ) → k < n → m < n → A k m ≡ Some u → ((k ≡ i) × (m ≡ j)) ⊎ ((k ≡ i) × (m ≡ j) → ⊥) → difference (z m) (z k) ≤ℤ u
        old k m u hk hm e (inl (p, q)) = omega (arith, ints, ap z p, ap z q, at, (lesser_is (A i j) w).3 u (subst₂ (λ (x y : ℕ). A x y ≡ Some u) p q e))
        old k m u hk hm e (inr s) = keeps k m u (hk, hm, t.elsewhere k m hk hm s ∙ e)

    looser : (z : ℕ → ℕ) → Keeps (Entry n A) z × (difference (z j) (z i) ≤ℤ w) → Keeps (Entry n A') z
    looser z (keeps, l) k m u (hk, hm, e) = go (both_or_not i j k m)
      where
        at : (v ≡ w) ⊎ (A i j ≡ Some v) → difference (z j) (z i) ≤ℤ v
        at (inl s) = omega (arith, ints)
        at (inr s) = keeps i j v (hi, hj, s)

        go : ((k ≡ i) × (m ≡ j)) ⊎ ((k ≡ i) × (m ≡ j) → ⊥) → difference (z m) (z k) ≤ℤ u
        go (inl (p, q)) =
            let s : Some v ≡ Some u = sym here ∙ subst₂ (λ (x y : ℕ). A' x y ≡ Some u) p q e in
            let r : v ≡ u = cc in
            omega (arith, ints, ap z p, ap z q, at (lesser_is (A i j) w).4)
        go (inr s) = keeps k m u (hk, hm, sym (t.elsewhere k m hk hm s) ∙ e)

    pub tighten : (z : ℕ → ℕ) → Keeps (Entry n A') z ↔ (Keeps (Entry n A) z × (difference (z j) (z i) ≤ℤ w))
    tighten z = (tighter z, looser z)

  pub tighten_own : Tightens n A i j w A' → Own n A → Own n A'
  tighten_own t own k hk = go (both_or_not i j k k)
    where
      least : (v : ℤ) × (lesser (A i j) w ≡ Some v) × (v ≤ℤ w) × ((u : ℤ) → A i j ≡ Some u → v ≤ℤ u) × ((v ≡ w) ⊎ (A i j ≡ Some v))
      least = lesser_is (A i j) w

      go : ((k ≡ i) × (k ≡ j)) ⊎ ((k ≡ i) × (k ≡ j) → ⊥) → (u : ℤ) × (A' k k ≡ Some u) × (u ≤ℤ pos 0)
      go (inl (p, q)) =
          let o = own k hk in
          let u : ℤ = o.0 in
          let h : u ≤ℤ pos 0 = o.2 in
          let l : least.0 ≤ℤ u = least.3 u (subst₂ (λ (x y : ℕ). A x y ≡ Some u) p q o.1) in
          (least.0, subst₂ (λ (x y : ℕ). A' x y ≡ Some least.0) (sym p) (sym q) (t.here ∙ least.1), omega (arith, ints))
      go (inr s) = let o = own k hk in (o.0, t.elsewhere k k hk hk s ∙ o.1, o.2)

-- new where both numbers are found, else old
put : {A B : Type 0} → A ⊎ B → Option ℤ → Option ℤ → Option ℤ
put (inl p) new old = new
put (inr p) new old = old

tightened : Table → ℕ → ℕ → ℤ → Table
tightened A i j w k m = put (both_or_not i j k m) (lesser (A i j) w) (A k m)

tightened_tightens : (n : ℕ) (A : Table) (i j : ℕ) (w : ℤ) → Tightens n A i j w (tightened A i j w)
unfolding tightened put
tightened_tightens n A i j w = record { here = here (both_or_not i j i j); elsewhere = λ k m hk hm s. off k m s (both_or_not i j k m) }
  where
    here : (c : ((i ≡ i) × (j ≡ j)) ⊎ ((i ≡ i) × (j ≡ j) → ⊥)) → put c (lesser (A i j) w) (A i j) ≡ lesser (A i j) w
    here (inl p) = refl
    here (inr p) = absurd (p (refl, refl))

    off : (k m : ℕ) → ((k ≡ i) × (m ≡ j) → ⊥) → (c : ((k ≡ i) × (m ≡ j)) ⊎ ((k ≡ i) × (m ≡ j) → ⊥)) → put c (lesser (A i j) w) (A k m) ≡ A k m
    off k m s (inl p) = absurd (s p)
    off k m s (inr p) = refl

-- Rules that tables can say

-- R can be added to every table of n places
abbrev Sayable : ℕ → ((ℕ → ℕ) → Type 0) → Type 0
Sayable n R = (A : Table) → Own n A → (A' : Table) × Own n A' × ((z : ℕ → ℕ) → Keeps (Entry n A') z ↔ (Keeps (Entry n A) z × R z))

say_bound : (n i j : ℕ) (w : ℤ) → i < n → j < n → Sayable n (λ z. difference (z j) (z i) ≤ℤ w)
say_bound n i j w hi hj A own =
    let t : Tightens n A i j w (tightened A i j w) = tightened_tightens n A i j w in
    (tightened A i j w, tighten_own n A i j w (tightened A i j w) t own, tighten n A i j w (tightened A i j w) hi hj t)

say_nothing : (n : ℕ) (R : (ℕ → ℕ) → Type 0) → ((z : ℕ → ℕ) → R z) → Sayable n R
say_nothing n R r A own = (A, own, λ z. (λ h. (h, r z), λ h. h.0))

say_like : (n : ℕ) (R S : (ℕ → ℕ) → Type 0) → ((z : ℕ → ℕ) → R z → S z) → ((z : ℕ → ℕ) → S z → R z) → Sayable n R → Sayable n S
say_like n R S to from r A own = let t = r A own in (t.0, t.1, λ z. (λ h. let k = (t.2 z).0 h in (k.0, to z k.1), λ h. (t.2 z).1 (h.0, from z h.1)))

say_both : (n : ℕ) (R S : (ℕ → ℕ) → Type 0) → Sayable n R → Sayable n S → Sayable n (λ z. R z × S z)
say_both n R S r s A own =
    let t = r A own in
    let u = s t.0 t.1 in (
      u.0,
      u.1,
      λ z. (
        λ h. let k = (u.2 z).0 h in let m = (t.2 z).0 k.0 in (m.0, (m.1, k.1)),
        λ h. (u.2 z).1 ((t.2 z).1 (h.0, h.1.0), h.1.1),
      ),
    )

say_all : (n m : ℕ) (R : ℕ → (ℕ → ℕ) → Type 0) → ((k : ℕ) → k < m → Sayable n (R k)) → Sayable n (λ z. (k : ℕ) → k < m → R k z)
say_all n zero R each = say_nothing n (λ z. (k : ℕ) → k < 0 → R k z) (λ z k l. absurd (omega arith))
say_all n (suc m) R each = say_like n (λ z. ((k : ℕ) → k < m → R k z) × R m z) (λ z. (k : ℕ) → k < suc m → R k z)
    (λ z h. below_suc (λ k. R k z) m h.0 h.1)
    (λ z h. (λ k l. h k (omega arith), h m (omega arith)))
    (say_both n (λ z. (k : ℕ) → k < m → R k z) (R m) (say_all n m R (λ k l. each k (omega arith))) (each m (omega arith)))

say_if : (n : ℕ) (P : Type 0) (R : (ℕ → ℕ) → Type 0) → Dec P → (P → Sayable n R) → Sayable n (λ z. P → R z)
say_if n P R (yes p) r = say_like n R (λ z. P → R z) (λ z h q. h) (λ z h. h p) (r p)
say_if n P R (no p) r = say_nothing n (λ z. P → R z) (λ z q. absurd (p q))

-- x is no more than m ticks after y
say_after : (n x y m : ℕ) → x < n → y < n → Sayable n (λ z. z x ≤ z y + m)
say_after n x y m hx hy = say_like n (λ z. difference (z x) (z y) ≤ℤ pos m) (λ z. z x ≤ z y + m) (λ z h. omega (arith, ints)) (λ z h. omega (arith, ints)) (say_bound n y x (pos m) hy hx)

say_within : (n : ℕ) (i : Interval) (x y : ℕ) → x < n → y < n → Sayable n (λ z. Within i (z x) (z y))
say_within n i x y hx hy = go i.upper refl
  where
    lower : Sayable n (λ z. z x + i.lower ≤ z y)
    lower = say_like n (λ z. difference (z x) (z y) ≤ℤ neg_ℤ (pos i.lower)) (λ z. z x + i.lower ≤ z y) (λ z h. omega (arith, ints)) (λ z h. omega (arith, ints)) (say_bound n y x (neg_ℤ (pos i.lower)) hy hx)

    never : i.upper ≡ None → (a b u : ℕ) → i.upper ≡ Some u → b ≤ a + u
    never e a b u f = let z : ◌≡◌ {A = ℕ} 0 1 = cc in absurd (omega arith)

    over : (u : ℕ) → i.upper ≡ Some u → (a b : ℕ) → b ≤ a + u → (v : ℕ) → i.upper ≡ Some v → b ≤ a + v
    over u e a b l v f = let s : u ≡ v = cc in omega arith

    go : (o : Option ℕ) → i.upper ≡ o → Sayable n (λ z. Within i (z x) (z y))
    go None e = say_like n (λ z. z x + i.lower ≤ z y) (λ z. Within i (z x) (z y)) (λ z h. record { not_under = h; not_over = never e (z x) (z y) }) (λ z h. h.not_under) lower
    go (Some u) e = say_like n (λ z. (z x + i.lower ≤ z y) × (z y ≤ z x + u)) (λ z. Within i (z x) (z y))
        (λ z h. record { not_under = h.0; not_over = over u e (z x) (z y) h.1 })
        (λ z h. (h.not_under, h.not_over u e))
        (say_both n (λ z. z x + i.lower ≤ z y) (λ z. z y ≤ z x + u) lower (say_after n y x u hy hx))

-- a chart whose event e stands at the place first + e
module _ (b : BookValue) (c : ChartValue) (facts : ChartFacts b c) (first n : ℕ) (fits : first + event_count b c ≤ n) where
  abbrev working : ℕ
  working = length c.events

  abbrev at : ℕ → ℕ
  at e = first + e

  works : (e : ℕ) → Working c e → at e < n
  works e h = omega (arith, working_exists b c e h)

  abbrev Order : (ℕ → ℕ) → Type 0
  Order z = (e : ℕ) → e < working → (f : ℕ) → f < working → DirectlyBefore c.events e f → z (at e) ≤ z (at f) + 0

  abbrev Near : (ℕ → ℕ) → Type 0
  Near z = (e : ℕ) → e < working → (f : ℕ) → f < working → z (at e) ≤ z (at f) + drift b c e f

  abbrev Far : (ℕ → ℕ) → Type 0
  Far z = (e : ℕ) → e < event_count b c → (f : ℕ) → f < event_count b c → ((working ≤ e) ⊎ (working ≤ f)) → z (at e) ≤ z (at f) + drift b c e f

  abbrev Constraints : (ℕ → ℕ) → Type 0
  Constraints z = (k : ℕ) → k < length c.constraints → Within (constraint c k).interval (z (at (constraint c k).first)) (z (at (constraint c k).second))

  say_order : Sayable n Order
  say_order = say_all n working (λ e z. (f : ℕ) → f < working → DirectlyBefore c.events e f → z (at e) ≤ z (at f) + 0) (λ e he.
      say_all n working (λ f z. DirectlyBefore c.events e f → z (at e) ≤ z (at f) + 0) (λ f hf.
      say_if n (DirectlyBefore c.events e f) (λ z. z (at e) ≤ z (at f) + 0) (dec_by (DirectlyBefore c.events e f) (is_directly_before c.events e f) (decides_before c.events e f))
      (λ q. say_after n (at e) (at f) 0 (works e he) (works f hf))))

  say_constraints : Sayable n Constraints
  say_constraints = say_all n (length c.constraints) (λ k z. Within (constraint c k).interval (z (at (constraint c k).first)) (z (at (constraint c k).second)))
      (λ k h. let r = facts.named k h in say_within n (constraint c k).interval (at (constraint c k).first) (at (constraint c k).second) (works (constraint c k).first r.0) (works (constraint c k).second r.1))

  say_near : Sayable n Near
  say_near = say_all n working (λ e z. (f : ℕ) → f < working → z (at e) ≤ z (at f) + drift b c e f) (λ e he.
      say_all n working (λ f z. z (at e) ≤ z (at f) + drift b c e f) (λ f hf. say_after n (at e) (at f) (drift b c e f) (works e he) (works f hf)))

  say_far : Sayable n Far
  say_far = say_all n (event_count b c) (λ e z. (f : ℕ) → f < event_count b c → ((working ≤ e) ⊎ (working ≤ f)) → z (at e) ≤ z (at f) + drift b c e f) (λ e he.
      say_all n (event_count b c) (λ f z. ((working ≤ e) ⊎ (working ≤ f)) → z (at e) ≤ z (at f) + drift b c e f) (λ f hf.
      say_if n ((working ≤ e) ⊎ (working ≤ f)) (λ z. z (at e) ≤ z (at f) + drift b c e f) (dec_either (working ≤ e) (working ≤ f) (dec_le working e) (dec_le working f))
      (λ q. say_after n (at e) (at f) (drift b c e f) (omega arith) (omega arith))))

  say_chart : Sayable n (λ z. KeepsChart b c (λ e. z (at e)))
  say_chart = say_like n (λ z. (Order z × Constraints z) × (Near z × Far z)) (λ z. KeepsChart b c (λ e. z (at e)))
      (λ z h. record {
        order = λ e f q. let r = facts.order e f q in omega (arith, h.0.0 e r.0 f r.1 q);
        constraints = h.0.1;
        near = λ e f p q. h.1.0 e p f q;
        far = λ e f p. h.1.1 e p.first_exists f p.second_exists p.silent;
      })
      (λ z h. (
        (λ e he f hf q. omega (arith, h.order e f q), h.constraints),
        (λ e he f hf. h.near e f he hf, λ e he f hf q. h.far e f (record { first_exists = he; second_exists = hf; silent = q })),
      ))
      (say_both n (λ z. Order z × Constraints z) (λ z. Near z × Far z) (say_both n Order Constraints say_order say_constraints) (say_both n Near Far say_near say_far))

-- the table that says nothing but 0 from each place to itself
blank : Table
blank i j = put (both_or_not i i i j) (Some (pos 0)) None

blank_own : (n : ℕ) → Own n blank
unfolding blank put
blank_own n i hi = go (both_or_not i i i i)
  where
    go : (c : ((i ≡ i) × (i ≡ i)) ⊎ ((i ≡ i) × (i ≡ i) → ⊥)) → (w : ℤ) × (put c (Some (pos 0)) None ≡ Some w) × (w ≤ℤ pos 0)
    go (inl p) = (pos 0, refl, omega (arith, ints))
    go (inr p) = absurd (p (refl, refl))

blank_kept : (n : ℕ) (z : ℕ → ℕ) → Keeps (Entry n blank) z
unfolding blank put
blank_kept n z i j w (hi, hj, e) = go (both_or_not i i i j) e
  where
    go : (c : ((i ≡ i) × (j ≡ i)) ⊎ ((i ≡ i) × (j ≡ i) → ⊥)) → put c (Some (pos 0)) None ≡ Some w → difference (z j) (z i) ≤ℤ w
    go (inl p) s = let t : pos 0 ≡ w = cc in omega (arith, ints, ap z p.1)
    go (inr p) s = let t : ◌≡◌ {A = ℕ} 0 1 = cc in absurd (omega arith)

filled : (n : ℕ) (K : (ℕ → ℕ) → Type 0) → Sayable n K → (A : Table) × Says n K A
filled n K s = let t = s blank (blank_own n) in (t.0, record { own = t.1; exact = λ z. (λ h. (t.2 z).1 (blank_kept n z, h), λ h. ((t.2 z).0 h).1) })

pub chart_table : (b : BookValue) → GoodBook b → (c : ℕ) → (A : Table) × SaysChart b (chart b c) A
chart_table b good c = filled (event_count b (chart b c)) (KeepsChart b (chart b c))
    (say_like (event_count b (chart b c)) (λ z. KeepsChart b (chart b c) (λ e. z (0 + e))) (KeepsChart b (chart b c))
    (λ z h. subst (KeepsChart b (chart b c)) (fun_ext (λ e. ap z (from_0 e))) h)
    (λ z h. subst (KeepsChart b (chart b c)) (fun_ext (λ e. ap z (sym (from_0 e)))) h)
    (say_chart b (chart b c) (chart_facts b good c) 0 (event_count b (chart b c)) (omega arith)))
  where
    from_0 : (e : ℕ) → 0 + e ≡ e
    from_0 e = omega arith

pub step_table : (b : BookValue) → GoodBook b → (l : ℕ) (P : ℕ → ℕ → ℤ) → (A : Table) × SaysStep b (link b l) P A
step_table b good l P = filled n (λ z. Step b (link b l) P z (λ e. z (b.stations + e)))
    (say_like n (λ z. (Profiled z × Crossed z) × KeepsChart b c (λ e. z (b.stations + e))) (λ z. Step b (link b l) P z (λ e. z (b.stations + e)))
    (λ z h. record {
      profile = λ p q hp hq. h.0.0 p hp q hq;
      intervals = λ p f hp hf. subst (λ (e : ℕ). Within (interval (link b l) p) (z p) (z (b.stations + e))) (one_first b c p (first.0 p) f (first.1 p hp) hf) (h.0.1 p hp);
      chart = h.1;
    })
    (λ z h. ((λ p hp q hq. h.profile p q hp hq, λ p hp. h.intervals p (first.0 p) hp (first.1 p hp)), h.chart))
    (say_both n (λ z. Profiled z × Crossed z) (λ z. KeepsChart b c (λ e. z (b.stations + e)))
    (say_both n Profiled Crossed
    (say_all n b.stations (λ p z. (q : ℕ) → q < b.stations → difference (z p) (z q) ≤ℤ P p q) (λ p hp.
    say_all n b.stations (λ q z. difference (z p) (z q) ≤ℤ P p q) (λ q hq. say_bound n q p (P p q) (omega arith) (omega arith))))
    (say_all n b.stations (λ p z. Within (interval (link b l) p) (z p) (z (b.stations + first.0 p))) (λ p hp.
    say_within n (interval (link b l) p) p (b.stations + first.0 p) (omega arith) (omega (arith, (first.1 p hp).on.exists)))))
    (say_chart b c (chart_facts b good (link b l).to) b.stations n (omega arith))))
  where
    c : ChartValue
    c = enters b (link b l)

    n : ℕ
    n = step_places b (link b l)

    first : (f : ℕ → ℕ) × ((p : ℕ) → p < b.stations → First b c p (f p))
    first = choose b.stations (First b c) (first_event b c)

    Profiled : (ℕ → ℕ) → Type 0
    Profiled z = (p : ℕ) → p < b.stations → (q : ℕ) → q < b.stations → difference (z p) (z q) ≤ℤ P p q

    Crossed : (ℕ → ℕ) → Type 0
    Crossed z = (p : ℕ) → p < b.stations → Within (interval (link b l) p) (z p) (z (b.stations + first.0 p))
