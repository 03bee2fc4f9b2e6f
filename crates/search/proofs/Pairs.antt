-- The order of pairs, and the place to go on from.
use Rattle.std.proofs.Common.{◌≡◌, ℕ, suc, ◌<◌, true, ◌⊎◌, List, [], ◌∷◌, ◌++◌, length, sym, refl, subst, ap₂, inl, inr, arith}
use native.Mathlib.Decide.{dec_lt, ℕ_discrete}
use Rattle.search.specs.Systems.{System}
use Rattle.search.specs.Rows.{Row, Pair, Before, Among}
use Rattle.search.specs.Walks.{Phase, Idle, Open, Runs, Empty, Spent, Settles}
use Rattle.search.specs.Places.{Found}
use Rattle.search.proofs.Trails.{push_length, push_class}

pub before_dec : (p l q m : ℕ) → Dec (Before p l q m)
before_dec p l q m = elim (dec_lt p q) [
  | yes h ↦ yes (inl h)
  | no h ↦ elim (ℕ_discrete p q) [
    | yes e ↦ elim (dec_lt l m) [ yes g ↦ yes (inr (e, g)) | no g ↦ no (λ b. omega arith) ]
    | no e ↦ no (λ b. omega arith)
  ]
]

-- of two pairs one is before the other, or they are the same
three : (p l q m : ℕ) → Before p l q m ⊎ (Before q m p l ⊎ ((p ≡ q) × (l ≡ m)))
three p l q m = elim (before_dec p l q m) [
  | yes h ↦ inl h
  | no h ↦ elim (dec_lt q p) [
    | yes g ↦ inr (inl (inl g))
    | no g ↦ elim (dec_lt p q) [
      | yes f ↦ absurd (h (inl f))
      | no f ↦ let e : p ≡ q = omega arith in elim (dec_lt l m) [
        | yes d ↦ absurd (h (inr (e, d)))
        | no d ↦ elim (dec_lt m l) [ yes c ↦ inr (inl (inr (sym e, c))) | no c ↦ inr (inr (e, omega arith)) ]
      ]
    ]
  ]
]

pub same_pair : (p l q m : ℕ) → (Before p l q m → ⊥) → (Before q m p l → ⊥) → (p ≡ q) × (l ≡ m)
same_pair p l q m a b = go (three p l q m)
  where
    go : Before p l q m ⊎ (Before q m p l ⊎ ((p ≡ q) × (l ≡ m))) → (p ≡ q) × (l ≡ m)
    go (inl h) = absurd (a h)
    go (inr (inl h)) = absurd (b h)
    go (inr (inr e)) = e

-- what is not before one pair, and before another, has that one before the other
pub between : (i j q m p l : ℕ) → (Before i j q m → ⊥) → Before i j p l → Before q m p l
between i j q m p l h b = go (three i j q m)
  where
    go : Before i j q m ⊎ (Before q m i j ⊎ ((i ≡ q) × (j ≡ m))) → Before q m p l
    go (inl g) = absurd (h g)
    go (inr g) = put b g
      where
        put : Before i j p l → Before q m i j ⊎ ((i ≡ q) × (j ≡ m)) → Before q m p l
        put (inl x) g = inl (omega arith)
        put (inr x) (inl (inl z)) = inl (omega arith)
        put (inr x) (inl (inr z)) = inr (omega arith, omega arith)
        put (inr x) (inr z) = inr (omega arith, omega arith)

-- exactly the pairs before row p and link l are tried
abbrev pub Done : (y : System) → List (Row y) → List (ℕ × ℕ) → ℕ → ℕ → Type 0
Done y rows tried p l = (q m : ℕ) → Pair y rows q m → (Among tried q m → Before q m p l) × (Before q m p l → Among tried q m)

module _ (y : System) (rows : List (Row y)) (tried : List (ℕ × ℕ)) where
  pub settles_one : (f g : Phase) → Settles y rows tried f → Settles y rows tried g → f ≡ g
  settles_one Idle g s t = absurd s
  settles_one (Runs k) g s t = absurd s
  settles_one Spent g s t = absurd s
  settles_one (Open p l) Idle s t = absurd t
  settles_one (Open p l) (Runs k) s t = absurd t
  settles_one (Open p l) Spent s t = absurd t
  settles_one (Open p l) Empty s t = absurd (t p l s.0)
  settles_one (Open p l) (Open q m) s t =
      let e = same_pair p l q m (λ h. t.1 p l s.0 h) (λ h. s.1 q m t.0 h) in
      ap₂ Open e.0 e.1
  settles_one Empty Idle s t = absurd t
  settles_one Empty (Runs k) s t = absurd t
  settles_one Empty Spent s t = absurd t
  settles_one Empty (Open p l) s t = absurd (s p l t.0)
  settles_one Empty Empty s t = refl

  module _ (p l : ℕ) (done : Done y rows tried p l) where
    pub found_settles : (f : Phase) → Found y rows p l f → Settles y rows tried f
    found_settles Idle s = s
    found_settles (Open q m) s = ((s.0, λ a. s.1 ((done q m s.0).0 a)), λ i j w b. w.1 ((done i j w.0).1 (s.2 i j w.0 b)))
    found_settles (Runs k) s = s
    found_settles Empty s = λ i j w. w.1 ((done i j w.0).1 (s i j w.0))
    found_settles Spent s = s

    pub settles_found : (f : Phase) → Settles y rows tried f → Found y rows p l f
    settles_found Idle s = s
    settles_found (Open q m) s =
        (s.0.0, (λ b. s.0.1 ((done q m s.0.0).1 b)), λ i j w b. elim (before_dec i j p l) [ yes h ↦ h | no h ↦ absurd (s.1 i j (w, λ a. h ((done i j w).0 a)) b) ])
    settles_found (Runs k) s = s
    settles_found Empty s = λ i j w. elim (before_dec i j p l) [ yes h ↦ h | no h ↦ absurd (s i j (w, λ a. h ((done i j w).0 a))) ]
    settles_found Spent s = s

    -- the pairs before the next one are those that were tried
    pub done_at : (q m : ℕ) → Settles y rows tried (Open q m) → Done y rows tried q m
    done_at q m s i j w =
        let f = settles_found (Open q m) s in
        let into : Before i j p l → Before i j q m = λ b. elim (before_dec i j q m) [ yes h ↦ h | no h ↦ absurd (f.1 (between i j q m p l h b)) ] in
        ((λ a. into ((done i j w).0 a)), λ b. (done i j w).1 (f.2 i j w b))

  pub done_none : tried ≡ [] → Done y rows tried 0 0
  done_none e q m w = ((λ a. absurd (subst (λ (x : List (ℕ × ℕ)). Among x q m) e a)), λ b. absurd (omega arith))

-- the pairs before row p and link l + 1 are those before l, and that of l
pub before_more : (q m p l : ℕ) → Before q m p (suc l) → Before q m p l ⊎ ((q ≡ p) × (m ≡ l))
before_more q m p l (inl h) = inl (inl h)
before_more q m p l (inr h) = elim (dec_lt m l) [ yes a ↦ inl (inr (h.0, a)) | no a ↦ inr (h.0, omega arith) ]

module _ (y : System) (rows : List (Row y)) (tried : List (ℕ × ℕ)) (p l : ℕ) (done : Done y rows tried p l) where
  -- one pair more is tried
  pub done_more : Done y rows ((p, l) ∷ tried) p (suc l)
  done_more q m w = (to, from)
    where
      to : ((p ≡ q) × (l ≡ m)) ⊎ Among tried q m → Before q m p (suc l)
      to (inl e) = inr (sym e.0, omega arith)
      to (inr a) = go ((done q m w).0 a)
        where
          go : Before q m p l → Before q m p (suc l)
          go (inl b) = inl b
          go (inr b) = inr (b.0, omega arith)

      from : Before q m p (suc l) → ((p ≡ q) × (l ≡ m)) ⊎ Among tried q m
      from b = go (before_more q m p l b)
        where
          go : Before q m p l ⊎ ((q ≡ p) × (m ≡ l)) → ((p ≡ q) × (l ≡ m)) ⊎ Among tried q m
          go (inl h) = inr ((done q m w).1 h)
          go (inr e) = inl (sym e.0, sym e.1)

module _ (y : System) (rows : List (Row y)) (r : Row y) where
  pub pair_push : (q m : ℕ) → Pair y rows q m → Pair y (rows ++ r ∷ []) q m
  pair_push q m w = (omega (arith, push_length rows r, w.0), w.1, subst (λ (x : y.Class). y.begins x m ≡ true) (sym (push_class rows r q w.0)) w.2)

  pub pair_back : (q m : ℕ) → q < length rows → Pair y (rows ++ r ∷ []) q m → Pair y rows q m
  pair_back q m h w = (h, w.1, subst (λ (x : y.Class). y.begins x m ≡ true) (push_class rows r q h) w.2)

  -- a row more has no pair that was tried
  pub done_push : (tried : List (ℕ × ℕ)) (p l : ℕ) → p < length rows → ((q m : ℕ) → Among tried q m → Pair y rows q m) → Done y rows tried p l → Done y (rows ++ r ∷ []) tried p l
  done_push tried p l hp pairs done q m w =
      ((λ a. (done q m (pair_back q m (pairs q m a).0 w)).0 a), λ b. (done q m (pair_back q m (below b) w)).1 b)
    where
      below : Before q m p l → q < length rows
      below (inl b) = omega arith
      below (inr b) = omega arith
