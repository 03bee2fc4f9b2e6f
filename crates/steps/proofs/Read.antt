-- Entries that are read out of a closed table.
use Rattle.std.proofs.Common.{◌≡◌, ℕ, ◌+◌, ◌*◌, ◌/◌, ◌%◌, ◌<◌, ◌≤◌, true, List, length, get_or, set, ℤ, pos, is_some, Some, Option, sym, ap, ◌∙◌, subst, ap₂, subst₂, ⊎_elim, arith, length-set, w16, w32, SFits, to_z, of_z, below_more}
use Rattle.std.proofs.lemmas.Int.{to_z-of_z}
use Rattle.std.proofs.lemmas.List.{get_or-set_same, get_or-set_other}
use Rattle.std.proofs.lemmas.Nat.{div-mul-add, mod-mul-add}
use Rattle.closure.specs.Tickings.{WithinTicks}
use Rattle.fullchart.specs.Finds.{LastOn}
use Rattle.paths.specs.Tables.{Table}
use Rattle.profile.proofs.Ranges.{small_fits}
use Rattle.steps.specs.Readings.{Readable, EntryRead, ProfileRead}

-- the last place of a station is one
same_last : (l : List ℕ) (p e f : ℕ) → LastOn l p (Some e) → LastOn l p (Some f) → e ≡ f
same_last l p e f one two = omega (arith, one.2 f two.0 two.1, two.2 e one.0 one.1)

module _ (D : Table) (first : ℕ) (events : List ℕ) (p q e f : ℕ) (r : Option ℤ) (readable : Readable D first events) (he : LastOn events p (Some e)) (hf : LastOn events q (Some f)) (read : r ≡ D (first + f) (first + e)) where
  number : (w : ℤ) × (r ≡ Some w) × WithinTicks 10000 w
  number = let x = readable p q e f he hf in (x.0, read ∙ x.1, x.2)

  pub is_number : is_some r ≡ true
  is_number = ap is_some number.1

  -- in 32 bits, and then in 16
  module _ (w : ℤ) (s : r ≡ Some w) (fits : SFits w32 w) where
    back : to_z w32 (of_z w32 w) ≡ w
    back = to_z-of_z w32 w fits

    pub is_small : SFits w16 (to_z w32 (of_z w32 w))
    is_small = let t : Some number.0 ≡ Some w = sym number.1 ∙ s in let u : number.0 ≡ w = cc in subst (SFits w16) (u ∙ sym back) (small_fits number.0 number.2)

    pub entry_read : EntryRead D first events p q (to_z w16 (of_z w16 (to_z w32 (of_z w32 w))))
    entry_read = record {
      found = λ e' f' he' hf'. ap₂ (λ a b. D (first + a) (first + b)) (same_last events q f' f hf' hf) (same_last events p e' e he' he) ∙ sym read ∙ s ∙ ap Some (sym (to_z-of_z w16 (to_z w32 (of_z w32 w)) is_small ∙ back));
      absent = ⊎_elim (λ none. absurd (none e he.0 he.1)) (λ none. absurd (none f hf.0 hf.1));
    }

-- Entry by entry

module _ (D : Table) (first : ℕ) (events : List ℕ) where
  abbrev pub ReadBelow : ℕ → List ℤ → Type 0
  ReadBelow n a = (length a ≡ 64) × ((k : ℕ) → k < n → EntryRead D first events (k / 8) (k % 8) (get_or a k (pos 0)))

  pub read_more : (k i : ℕ) (a : List ℤ) (w : ℤ) → k < 64 → i ≡ k → SFits w16 w → EntryRead D first events (k / 8) (k % 8) w → ReadBelow k a → ReadBelow (k + 1) (set a i (to_z w16 (of_z w16 w)))
  read_more k i a w lt is fits entry below = (
    length-set a i v ∙ below.0,
    below_more (λ j. EntryRead D first events (j / 8) (j % 8) (get_or (set a i v) j (pos 0))) k
        (λ j h. subst (EntryRead D first events (j / 8) (j % 8)) (sym (get_or-set_other a i j v (pos 0) (omega arith))) (below.1 j h))
        (subst (EntryRead D first events (k / 8) (k % 8)) (sym (ap (λ j. get_or (set a i v) j (pos 0)) (sym is) ∙ get_or-set_same a i v (pos 0) (omega (arith, below.0)) ∙ to_z-of_z w16 w fits)) entry),
  )
    where
      v : ℤ
      v = to_z w16 (of_z w16 w)

  pub read_all : (n : ℕ) (a : List ℤ) → 64 ≤ n → ReadBelow n a → ProfileRead D first events a
  read_all n a all below p q hp hq =
      let k = 8 * p + q in
      let e : k ≡ p * 8 + q = omega arith in
      subst₂ (λ x y. EntryRead D first events x y (get_or a k (pos 0))) (ap (λ i. i / 8) e ∙ div-mul-add p 8 q hq) (ap (λ i. i % 8) e ∙ mod-mul-add p 8 q hq) (below.1 k (omega arith))
