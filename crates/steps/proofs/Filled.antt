-- Bounds that are added one by one.
use Rattle.std.proofs.Common.{◌≡◌, ℕ, ◌+◌, ◌*◌, ◌/◌, ◌%◌, ◌<◌, Bool, true, false, cond, eqb, ◌↔◌, List, length, set, ℤ, pos, neg_ℤ, ◌+ℤ◌, ◌≤ℤ◌, Some, None, Option, sym, refl, ap, ◌∙◌, subst, ap₂, subst₂, arith, length-set, w32, SFits, to_z, of_z, below_more, Ok, Err, Result}
use mathlib.Core.Logic.{∥∥₁_elim}
use mathlib.Core.HLevel.{⊥_prop}
use native.Mathlib.Decide.{ℕ_discrete}
use Rattle.std.proofs.lemmas.List.{get_or-map}
use Rattle.std.proofs.lemmas.Int.{ints, by_lt_z, to_z-of_z}
use Rattle.std.proofs.lemmas.Nat.{div-mul-add, mod-mul-add}
use Rattle.std.proofs.lemmas.Bool.{eq-eqb, ne_eqb}
use Rattle.bookformat.specs.declared.value.Interval.{Interval}
use Rattle.closure.specs.declared.kinds.Ticks.{Ticks}
use Rattle.closure.specs.declared.kinds.TooFar.{TooFar}
use Rattle.closure.specs.Closings.{weight_at, Sized, Filled}
use Rattle.closure.specs.Tickings.{fewer, ticks_reach, ticks_value, ticks_meaning, WithinTicks, MakesTicks}
use Rattle.closure.proofs.Entries.{place_below, same_row, same_column, write_same, write_other}
use Rattle.paths.specs.Datings.{Within}
use Rattle.paths.specs.Bounds.{Keeps}
use Rattle.paths.specs.Tables.{Entry, lesser, Tightens}
use Rattle.paths.proofs.Filled as theory
use Rattle.steps.specs.declared.bounds.Bounds.{Bounds}
use Rattle.steps.specs.Tables.{table_of, Usable, blank_weight}
use Rattle.steps.specs.Fillings.{places, table, KeepsBounds, Adds, AtMost}

-- What the type of bounds says

-- an order of numbers that does not fail holds
stable : (x y : ℤ) → ((x ≤ℤ y → ⊥) → ⊥) → x ≤ℤ y
stable x y h = by_lt_z y x (λ lt. absurd (h (λ le. grind (arith, ints)))) (λ ge. grind (arith, ints))

reached : (a : Option ℤ) → ((ticks_reach 1 a → ⊥) → ⊥) → ticks_reach 1 a
reached None h = tt
reached (Some a) h = (stable a (pos 10000) (λ no. h (λ r. no r.0)), stable (pos 0) (a +ℤ pos 10000) (λ no. h (λ r. no r.1)))

owned : (a : Option ℤ) → (((w : ℤ) × (a ≡ Some w) × (w ≤ℤ pos 0) → ⊥) → ⊥) → (w : ℤ) × (a ≡ Some w) × (w ≤ℤ pos 0)
owned None h = absurd (h (λ x. let e = x.1 in let z : ◌≡◌ {A = ℕ} 0 1 = cc in absurd (omega arith)))
owned (Some a) h = (a, refl, stable a (pos 0) (λ no. h (λ x. let e = x.1 in let s : x.0 ≡ a = cc in no (subst (λ w. w ≤ℤ pos 0) s x.2))))

-- both facts of the entries can be tested, so what is known to be usable is
usable_known : (n : ℕ) (l : List Ticks) → Sized n l → ∥ Usable n l ∥₁ → Usable n l
usable_known n l sized known = record {
  sized = sized;
  given = λ k h. reached (weight_at ticks_meaning l k) (λ no. ∥∥₁_elim known ⊥_prop (λ u. no (u.given k h)));
  own = λ i h. owned (table_of n l i i) (λ no. ∥∥₁_elim known ⊥_prop (λ u. no (u.own i h)));
}

-- bounds can be closed
pub usable_of : (s : Bounds) → Usable s.table.places s.table.weights.now
usable_of s = usable_known s.table.places s.table.weights.now s.table.sized s.usable

-- One entry

lesser_new : (a : Option ℤ) (w : ℤ) → fewer (Some w) a ≡ true → Some w ≡ lesser a w
lesser_new None w e = refl
lesser_new (Some u) w e = ap (λ (v : Bool). Some (cond v w u)) (sym e)

lesser_old : (a : Option ℤ) (w : ℤ) → fewer (Some w) a ≡ false → a ≡ lesser a w
lesser_old None w e = let z : ◌≡◌ {A = ℕ} 0 1 = cc in absurd (omega arith)
lesser_old (Some u) w e = ap (λ (v : Bool). Some (cond v w u)) (sym e)

abbrev KeepsTable : ℕ → List Ticks → (ℕ → ℕ) → Type 0
KeepsTable n l z = Keeps (Entry n (table_of n l)) z

-- the number that was made into ticks, to its bits and back
pub made : {r : Result Ticks TooFar} {w : ℤ} {t : Ticks} → SFits w32 w → r ≡ Ok t → MakesTicks (to_z w32 (of_z w32 w)) r → ticks_value t ≡ Some w
made {r = Ok u} {w} {t} fits e h = let s : t ≡ u = cc in ap ticks_value s ∙ h.1 ∙ ap Some (to_z-of_z w32 w fits)
made {r = Err f} {w} {t} fits e h = let z : ◌≡◌ {A = ℕ} 0 1 = cc in absurd (omega arith)

module _ (s : Bounds) (i j : ℕ) (w : ℤ) (t : Ticks) {a : Option ℤ} (inside : (i < places s) × (j < places s)) (is : ticks_value t ≡ Some w) (here : a ≡ table s i j) where
  -- the entry stays
  pub kept : fewer (ticks_value t) a ≡ false → Adds s s (AtMost i j w)
  kept e = record {
    places = refl;
    exact = theory.tighten (places s) (table s) i j w (table s) inside.0 inside.1 (record { here = lesser_old (table s i j) w (ap₂ fewer (sym is) (sym here) ∙ e); elsewhere = λ k m hk hm q. refl });
  }

  -- the entry is written
  module _ (better : fewer (ticks_value t) a ≡ true) where
    abbrev at : ℕ
    at = i * places s + j

    within : at < length s.table.weights.now
    within = omega (arith, s.table.sized.1, place_below (places s) i j inside.0 inside.1)

    tightens : Tightens (places s) (table s) i j w (table_of (places s) (set s.table.weights.now at t))
    tightens = record {
      here = write_same ticks_meaning s.table.weights.now at t within ∙ is ∙ lesser_new (table s i j) w (ap₂ fewer (sym is) (sym here) ∙ better);
      elsewhere = λ k m hk hm q. write_other ticks_meaning s.table.weights.now at (k * places s + m) t (λ e. q (same_row (places s) k m i j hm inside.1 e, same_column (places s) k m i j hm inside.1 e));
    }

    usable : WithinTicks 10000 w → Usable (places s) (set s.table.weights.now at t)
    usable small = record {
      sized = (s.table.sized.0, length-set s.table.weights.now at t ∙ s.table.sized.1);
      given = λ k h. elim (ℕ_discrete k at) [
        | yes e ↦ subst (λ q. ticks_reach 1 (weight_at ticks_meaning (set s.table.weights.now at t) q)) (sym e) (subst (ticks_reach 1) (sym (write_same ticks_meaning s.table.weights.now at t within ∙ is)) small)
        | no e ↦ subst (ticks_reach 1) (sym (write_other ticks_meaning s.table.weights.now at k t e)) ((usable_of s).given k (omega (arith, length-set s.table.weights.now at t)))
      ];
      own = theory.tighten_own (places s) (table s) i j w (table_of (places s) (set s.table.weights.now at t)) tightens (usable_of s).own;
    }

    pub still_usable : WithinTicks 10000 w → {m : ℕ} {k : List Ticks} → m ≡ places s → k ≡ set s.table.weights.now at t → Usable m k
    still_usable small same written = subst₂ Usable (sym same) (sym written) (usable small)

    pub tightened : {o : Bounds} → places o ≡ places s → o.table.weights.now ≡ set s.table.weights.now at t → Adds s o (AtMost i j w)
    tightened same written = record {
      places = same;
      exact = λ z. subst₂ (λ m k. KeepsTable m k z ↔ (KeepsBounds s z × AtMost i j w z)) (sym same) (sym written) (theory.tighten (places s) (table s) i j w (table_of (places s) (set s.table.weights.now at t)) inside.0 inside.1 tightens z);
    }

-- Bounds that ask nothing

blank_given : (i j : ℕ) → ticks_reach 1 (blank_weight i j)
blank_given i j = go (eqb i j)
  where
    go : (v : Bool) → ticks_reach 1 (cond v (Some (pos 0)) None)
    go true = (omega (arith, ints), omega (arith, ints))
    go false = tt

blank_some : (i j : ℕ) (w : ℤ) → blank_weight i j ≡ Some w → (i ≡ j) × (w ≡ pos 0)
blank_some i j w e = go (ℕ_discrete i j)
  where
    go : Dec (i ≡ j) → (i ≡ j) × (w ≡ pos 0)
    go (yes s) =
        let f : Some (pos 0) ≡ Some w = ap (λ (v : Bool). cond v (Some (pos 0)) None) (sym (eq-eqb i j s)) ∙ e in
        let g : w ≡ pos 0 = cc in
        (s, g)
    go (no s) =
        let f : None ≡ Some w = ap (λ (v : Bool). cond v (Some (pos 0)) None) (sym (ne_eqb i j s)) ∙ e in
        let g : ◌≡◌ {A = ℕ} 0 1 = cc in
        absurd (omega arith)

module _ (n : ℕ) (l : List Ticks) (sized : Sized n l) (filled : Filled (λ i j t. ticks_value t ≡ blank_weight i j) n l) where
  weight_is : (k : ℕ) → k < length l → weight_at ticks_meaning l k ≡ blank_weight (k / n) (k % n)
  weight_is k h = let d : Ticks = record { count = pos 0 } in get_or-map ticks_value l k d None h ∙ filled k d h

  blank_at : (i j : ℕ) → i < n → j < n → table_of n l i j ≡ blank_weight i j
  blank_at i j hi hj = weight_is (i * n + j) (omega (arith, sized.1, place_below n i j hi hj)) ∙ ap₂ blank_weight (div-mul-add i n j hj) (mod-mul-add i n j hj)

  pub blank_usable : Usable n l
  blank_usable = record {
    sized = sized;
    given = λ k h. subst (ticks_reach 1) (sym (weight_is k h)) (blank_given (k / n) (k % n));
    own = λ i h. (pos 0, blank_at i i h h ∙ ap (λ (v : Bool). cond v (Some (pos 0)) None) (eq-eqb i i refl), omega (arith, ints));
  }

  pub blank_kept : (z : ℕ → ℕ) → KeepsTable n l z
  blank_kept z i j w (hi, hj, e) = let s = blank_some i j w (sym (blank_at i j hi hj) ∙ e) in omega (arith, ints, ap z s.0, s.1)

-- One addition after another

pub adds_like : {s t : Bounds} {R S : (ℕ → ℕ) → Type 0} → Adds s t R → ((z : ℕ → ℕ) → R z ↔ S z) → Adds s t S
adds_like one same = record { places = one.places; exact = λ z. (λ h. let k = (one.exact z).0 h in (k.0, (same z).0 k.1), λ h. (one.exact z).1 (h.0, (same z).1 h.1)) }

pub adds_then : {s t u : Bounds} {R S : (ℕ → ℕ) → Type 0} → Adds s t R → Adds t u S → Adds s u (λ z. R z × S z)
adds_then one two = record {
  places = two.places ∙ one.places;
  exact = λ z. (λ h. let v = (two.exact z).0 h in let w = (one.exact z).0 v.0 in (w.0, (w.1, v.1)), λ h. (two.exact z).1 ((one.exact z).1 (h.0, h.1.0), h.1.1));
}

-- one more of many
pub adds_more : {s t u : Bounds} {p : ℕ} {Q : ℕ → (ℕ → ℕ) → Type 0} → Adds s t (λ z. (q : ℕ) → q < p → Q q z) → Adds t u (Q p) → Adds s u (λ z. (q : ℕ) → q < p + 1 → Q q z)
adds_more {p} {Q} one two = adds_like (adds_then one two) (λ z. (λ h. below_more (λ q. Q q z) p h.0 h.1, λ h. (λ q lt. h q (omega arith), h p (omega arith))))

-- all of them
pub adds_all : {s t : Bounds} {p n : ℕ} {Q : ℕ → (ℕ → ℕ) → Type 0} → p ≡ n → Adds s t (λ z. (q : ℕ) → q < p → Q q z) → Adds s t (λ z. (q : ℕ) → q < n → Q q z)
adds_all {s} {t} {Q} e = subst (λ m. Adds s t (λ z. (q : ℕ) → q < m → Q q z)) e

-- Intervals

module _ {s t : Bounds} {i : Interval} {x y : ℕ} (lower : Adds s t (AtMost y x (neg_ℤ (pos i.lower)))) where
  pub adds_lower : i.upper ≡ None → Adds s t (λ z. Within i (z x) (z y))
  adds_lower e = adds_like lower (λ z. (
    λ h. record { not_under = omega (arith, ints); not_over = λ u f. let s : ◌≡◌ {A = ℕ} 0 1 = cc in absurd (omega arith) },
    λ h. omega (arith, ints, h.not_under),
  ))

  pub adds_both : {u : ℕ} {v : ℤ} {o : Bounds} → i.upper ≡ Some u → v ≡ pos u → Adds t o (AtMost x y v) → Adds s o (λ z. Within i (z x) (z y))
  adds_both {u} e above upper =
      adds_like (adds_then lower upper) (λ z. (
        λ h. record { not_under = omega (arith, ints, h.0); not_over = λ t f. let s : u ≡ t = cc in omega (arith, ints, h.1) },
        λ h. (omega (arith, ints, h.not_under), omega (arith, ints, h.not_over u e)),
      ))
