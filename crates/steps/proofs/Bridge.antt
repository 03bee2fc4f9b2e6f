-- Closing a table of ticks finds its bad cycles and its shortest walks.
use Rattle.std.proofs.Common.{◌≡◌, ℕ, ◌<◌, true, false, List, [], ◌∷◌, ℤ, pos, ◌+ℤ◌, ◌≤ℤ◌, ◌<ℤ◌, Some, None, Option, sym, refl, ap, ◌∙◌, subst, ap₂, arith}
use lib.Signed.{lt_z}
use Rattle.std.proofs.lemmas.Int.{ints}
use Rattle.std.proofs.lemmas.Bool.{false≢true}
use Rattle.closure.specs.Walks.{Walk, weight, Bad, Closure}
use Rattle.closure.specs.Tickings.{fewer, plus, ticks}
use Rattle.paths.specs.Bounds.{BoundWalk, one, more, BadCycle}
use Rattle.paths.specs.Tables.{Table, Entry, ShortestWalks}

not_none : {w : ℤ} → Some w ≡ None → ⊥
not_none e = let z : ◌≡◌ {A = ℕ} 0 1 = cc in omega arith

-- a weight that is not none is so many ticks
number : (a : Option ℤ) → (a ≡ None → ⊥) → (w : ℤ) × (a ≡ Some w)
number (Some w) h = (w, refl)
number None h = absurd (h refl)

module _ (n : ℕ) (A : Table) where
  walked : (ps : List ℕ) (i j : ℕ) → i < n → j < n → Walk ticks n A i ps j → (w : ℤ) × (weight ticks A i ps j ≡ Some w) × BoundWalk (Entry n A) i j w
  walked [] i j hi hj h = let r = number (A i j) h in (r.0, r.1, one (hi, hj, r.1))
  walked (p ∷ ps) i j hi hj (hp, h, t) =
      let r = number (A i p) h in
      let s = walked ps p j hp hj t in
      (r.0 +ℤ s.0, ap₂ plus r.1 s.1, more (hi, hp, r.1) s.2 refl)

  listed : {i j : ℕ} {w : ℤ} → BoundWalk (Entry n A) i j w → (i < n) × (ps : List ℕ) × Walk ticks n A i ps j × (weight ticks A i ps j ≡ Some w)
  listed (one (hi, hj, e)) = (hi, [], λ f. not_none (sym e ∙ f), e)
  listed {i} (more {y} {u} {v} (hi, hy, e) t s) =
      let r = listed t in
      (hi, y ∷ r.1, (hy, λ f. not_none (sym e ∙ f), r.2), ap₂ plus e r.3 ∙ ap Some (sym s))

  pub bad_cycle : (p : ℕ) → Bad ticks n A p → BadCycle (Entry n A)
  bad_cycle p bad =
      let r = walked bad.by p p bad.place bad.place bad.walk in
      let b : lt_z r.0 (pos 0) ≡ true = subst (λ (a : Option ℤ). fewer a (Some (pos 0)) ≡ true) r.1 bad.better in
      record { place = p; sum = r.0; walk = r.2; below = grind (arith, ints) }

  pub shortest : (D : Table) → Closure ticks n A D → ShortestWalks n A D
  shortest D closure = record {
    no_bad_cycle = λ bad.
        let r = listed bad.walk in
        let l : bad.sum <ℤ pos 0 = bad.below in
        let b : lt_z bad.sum (pos 0) ≡ true = grind (arith, ints) in
        closure.sound bad.place (record { place = r.0; by = r.1; walk = r.2; better = subst (λ (a : Option ℤ). fewer a (Some (pos 0)) ≡ true) (sym r.3) b });
    entries = λ i j hi hj. record { walked = λ w e. found i j hi hj w e; least = λ w t. best i j hi hj w t };
  }
    where
      found : (i j : ℕ) → i < n → j < n → (w : ℤ) → D i j ≡ Some w → BoundWalk (Entry n A) i j w
      found i j hi hj w e =
          let a = (closure.best i j hi hj).attained (λ f. not_none (sym e ∙ f)) in
          let r = walked a.by i j hi hj a.walk in
          let s : Some w ≡ Some r.0 = sym e ∙ a.is ∙ r.1 in
          let t : w ≡ r.0 = cc in
          subst (BoundWalk (Entry n A) i j) (sym t) r.2

      best : (i j : ℕ) → i < n → j < n → (w : ℤ) → BoundWalk (Entry n A) i j w → (v : ℤ) × (D i j ≡ Some v) × (v ≤ℤ w)
      best i j hi hj w t =
          let r = listed t in
          go (D i j) refl (subst (λ (a : Option ℤ). fewer a (D i j) ≡ false) r.3 ((closure.best i j hi hj).bound r.1 r.2))
        where
          go : (d : Option ℤ) → D i j ≡ d → fewer (Some w) (D i j) ≡ false → (v : ℤ) × (D i j ≡ Some v) × (v ≤ℤ w)
          go (Some v) e f =
              let g : lt_z w v ≡ false = subst (λ (d : Option ℤ). fewer (Some w) d ≡ false) e f in
              (v, e, grind (arith, ints))
          go None e f = absurd (false≢true (sym (subst (λ (d : Option ℤ). fewer (Some w) d ≡ false) e f)))
