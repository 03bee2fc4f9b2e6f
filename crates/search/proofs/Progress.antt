-- A walk is never stuck.
use Rattle.std.proofs.Common.{◌≡◌, ℕ, zero, suc, ◌+◌, ◌-◌, ◌<◌, ◌≤◌, true, false, ◌≢◌, ◌⊎◌, List, [], ◌∷◌, ◌++◌, length, sym, refl, ap, ◌∙◌, subst, inl, inr, arith}
use native.Mathlib.Decide.{dec_lt, ℕ_discrete}
use Rattle.std.proofs.lemmas.Bool.{cases_Bool, true≢false}
use Rattle.search.specs.Systems.{System, Lawful, Goes, Decided}
use Rattle.search.specs.Rows.{Row, class_at, first_row, led_row, HeldAt, Pair, Before}
use Rattle.search.specs.Walks.{Phase, Idle, Open, Runs, Empty, Spent, code, IsOpen, Stage, Outcome, Barred, Known, New, Full, Tries, Begins, Step, none, more, Advances, Walked}
use Rattle.search.specs.Places.{Found, Continues}
use Rattle.search.specs.Laws.{ProgressLaw}
use Rattle.search.proofs.Trails.{push_length}
use Rattle.search.proofs.Pairs.{found_settles, done_none}
use Rattle.search.proofs.Unique.{advance_walked, advance_used}
use Rattle.search.proofs.Told.{open_front, continue}

module _ (y : System) (rows : List (Row y)) where
  -- row p has a first pair from link l on, or none
  InRow : ℕ → ℕ → Type 0
  InRow p l = ((m : ℕ) × (l ≤ m) × Pair y rows p m × ((j : ℕ) → l ≤ j → j < m → Pair y rows p j → ⊥)) ⊎ ((j : ℕ) → l ≤ j → Pair y rows p j → ⊥)

  in_row : (d p l : ℕ) → l + d ≡ y.links → p < length rows → InRow p l
  unfolding InRow
  in_row zero p l e h = inr (λ j a w. omega (arith, w.1))
  in_row (suc d) p l e h = go (cases_Bool (y.begins (class_at rows p) l)) (in_row d p (suc l) (omega arith) h)
    where
      Later : Type 0
      Later = ((m : ℕ) × (suc l ≤ m) × Pair y rows p m × ((j : ℕ) → suc l ≤ j → j < m → Pair y rows p j → ⊥)) ⊎ ((j : ℕ) → suc l ≤ j → Pair y rows p j → ⊥)

      not_here : y.begins (class_at rows p) l ≡ false → (j : ℕ) → (suc l ≤ j → Pair y rows p j → ⊥) → l ≤ j → Pair y rows p j → ⊥
      not_here f j out a w = elim (ℕ_discrete l j) [
        | yes q ↦ true≢false (sym (subst (λ (x : ℕ). y.begins (class_at rows p) x ≡ true) (sym q) w.2) ∙ f)
        | no q ↦ out (omega arith) w
      ]

      go : (y.begins (class_at rows p) l ≡ true) ⊎ (y.begins (class_at rows p) l ≡ false) → Later → ((m : ℕ) × (l ≤ m) × Pair y rows p m × ((j : ℕ) → l ≤ j → j < m → Pair y rows p j → ⊥)) ⊎ ((j : ℕ) → l ≤ j → Pair y rows p j → ⊥)
      go (inl b) later = inl (l, omega arith, (h, omega arith, b), λ j a c w. omega arith)
      go (inr b) (inl (m, a, w, out)) = inl (m, omega arith, w, λ j c g v. not_here b j (λ q u. out j q g u) c v)
      go (inr b) (inr out) = inr (λ j c v. not_here b j (out j) c v)

  -- no pair of row p from link l on: what is found from the next row on is found from here
  module _ (p l : ℕ) (out : (j : ℕ) → l ≤ j → Pair y rows p j → ⊥) where
    passed : (i j : ℕ) → Pair y rows i j → Before i j (suc p) 0 → Before i j p l
    passed i j w (inl h) = elim (dec_lt i p) [
      | yes a ↦ inl a
      | no a ↦
          let e : i ≡ p = omega arith in
          elim (dec_lt j l) [ yes b ↦ inr (e, b) | no b ↦ absurd (out j (omega arith) (subst (λ (x : ℕ). Pair y rows x j) e w)) ]
    ]
    passed i j w (inr h) = absurd (omega arith)

    onward : (f : Phase) → Found y rows (suc p) 0 f → Found y rows p l f
    onward Idle s = s
    onward (Open q m) s = (s.0, (λ b. s.1 (inl (next b))), λ i j w b. passed i j w (s.2 i j w b))
      where
        next : Before q m p l → q < suc p
        next (inl b) = omega arith
        next (inr b) = omega arith
    onward (Runs k) s = s
    onward Empty s = λ i j w. passed i j w (s i j w)
    onward Spent s = s

  -- there is a first pair from row p and link l on, or none
  find : (d p l : ℕ) → p + d ≡ length rows → l ≤ y.links → (f : Phase) × Found y rows p l f
  unfolding InRow
  find zero p l e h = (Empty, λ i j w. inl (omega (arith, w.0)))
  find (suc d) p l e h = go (in_row (y.links - l) p l (omega arith) (omega arith)) (find d (suc p) 0 (omega arith) (omega arith))
    where
      go : ((m : ℕ) × (l ≤ m) × Pair y rows p m × ((j : ℕ) → l ≤ j → j < m → Pair y rows p j → ⊥)) ⊎ ((j : ℕ) → l ≤ j → Pair y rows p j → ⊥) → (f : Phase) × Found y rows (suc p) 0 f → (f : Phase) × Found y rows p l f
      go (inl (m, a, w, out)) later = (Open p m, (w, (λ b. omega arith), λ i j v b. inside i j v b))
        where
          inside : (i j : ℕ) → Pair y rows i j → Before i j p m → Before i j p l
          inside i j v (inl b) = inl b
          inside i j v (inr b) = elim (dec_lt j l) [ yes c ↦ inr (b.0, c) | no c ↦ absurd (out j (omega arith) b.1 (subst (λ (x : ℕ). Pair y rows x j) b.0 v)) ]
      go (inr out) later = (later.0, onward p l out later.0 later.1)

  pub found : (p l : ℕ) → p ≤ length rows → l ≤ y.links → (f : Phase) × Found y rows p l f
  found p l h g = find (length rows - p) p l (omega arith) g

-- a state with another number is not open
shut : (f : Phase) (p l : ℕ) → code f ≢ 1 → f ≡ Open p l → ⊥
shut f p l n e = n (ap code e)

module _ (y : System) (laws : Lawful y) (decided : Decided y) where
  -- whether one of the first n rows has the class
  held : (rows : List (Row y)) (t : y.Class) (n : ℕ) → n ≤ length rows → ((k : ℕ) × HeldAt rows t k) ⊎ ((k : ℕ) → k < n → class_at rows k ≡ t → ⊥)
  held rows t zero h = inr (λ k o e. omega arith)
  held rows t (suc n) h = go (held rows t n (omega arith)) (decided.same (class_at rows n) t)
    where
      go : ((k : ℕ) × HeldAt rows t k) ⊎ ((k : ℕ) → k < n → class_at rows k ≡ t → ⊥) → Dec (class_at rows n ≡ t) → ((k : ℕ) × HeldAt rows t k) ⊎ ((k : ℕ) → k < suc n → class_at rows k ≡ t → ⊥)
      go (inl a) d = inl a
      go (inr out) (yes e) = inl (n, (h, e))
      go (inr out) (no e) = inr (λ k o q. elim (ℕ_discrete k n) [
        | yes c ↦ e (subst (λ (x : ℕ). class_at rows x ≡ t) c q)
        | no c ↦ out k (omega arith) q
      ])

  module _ (capacity : ℕ) (rows : List (Row y)) (p l : ℕ) where
    -- a pair is met in some way
    meets : (o : Outcome) × (after : List (Row y)) × Tries y capacity rows p l o after
    meets = go (decided.goes (class_at rows p) l)
      where
        lead : (t : y.Class) → y.leads (class_at rows p) l t → ((k : ℕ) × HeldAt rows t k) ⊎ ((k : ℕ) → k < length rows → class_at rows k ≡ t → ⊥) → (o : Outcome) × (after : List (Row y)) × Tries y capacity rows p l o after
        lead t g (inl (k, h)) = (Known k, rows, (t, g, h, refl))
        lead t g (inr out) = elim (dec_lt (length rows) capacity) [
          | yes r ↦ (New (length rows), rows ++ led_row y p l t ∷ [], (t, g, (λ k h. out k h.0 h.1), r, refl, refl))
          | no r ↦ (Full, rows, (t, g, (λ k h. out k h.0 h.1), omega arith, refl))
        ]

        go : Dec (Goes y (class_at rows p) l) → (o : Outcome) × (after : List (Row y)) × Tries y capacity rows p l o after
        go (no n) = (Barred, rows, (n, refl))
        go (yes (t, g)) = lead t g (held rows t (length rows) (omega arith))

    no_fewer : (o : Outcome) (after : List (Row y)) → Tries y capacity rows p l o after → length rows ≤ length after
    no_fewer Barred after t = omega (arith, ap length t.1)
    no_fewer (Known k) after t = omega (arith, ap length t.3)
    no_fewer (New k) after t = omega (arith, ap length t.5, push_length rows (led_row y p l t.0))
    no_fewer Full after t = omega (arith, ap length t.4)

    -- and a state follows
    follows : (o : Outcome) (after : List (Row y)) → p ≤ length after → suc l ≤ y.links → (f : Phase) × Continues y after p l o f
    follows Barred after h g = found y after p (suc l) h g
    follows (Known k) after h g = found y after p (suc l) h g
    follows (New k) after h g = go (cases_Bool (y.final (class_at after k))) (found y after p (suc l) h g)
      where
        go : (y.final (class_at after k) ≡ true) ⊎ (y.final (class_at after k) ≡ false) → (f : Phase) × Found y after p (suc l) f → (f : Phase) × Continues y after p l (New k) f
        go (inl e) f = (Runs k, ((λ q. refl), λ q. absurd (true≢false (sym e ∙ q))))
        go (inr e) f = (f.0, ((λ q. absurd (true≢false (sym q ∙ e))), λ q. f.1))
    follows Full after h g = (Spent, refl)

  step_on : (capacity n : ℕ) (z : Stage y) → Walked y capacity n z → IsOpen z.phase → (w : Stage y) × Step y capacity z w
  step_on capacity n z w (p, l, e) =
      let f = open_front y laws capacity n z w p l e in
      let m = meets capacity z.rows p l in
      let c = follows capacity z.rows p l m.0 m.1 (omega (arith, f.0.held, no_fewer capacity z.rows p l m.0 m.1 m.2)) f.1.0.0.1 in (
        record { rows = m.1; tried = (p, l) ∷ z.tried; phase = c.0 },
        record {
          place = p;
          link = l;
          outcome = m.0;
          is_open = e;
          first = f.1;
          tries = m.2;
          tried = refl;
          after = (continue y laws capacity n p l z w e m.0 m.1 m.2 c.0).0 c.1;
        },
      )

  begin_on : (capacity : ℕ) → 0 < capacity → (z : Stage y) × Walked y capacity 0 z
  begin_on capacity room = go decided.starts
    where
      begun : (z : Stage y) → Begins y z → (z : Stage y) × Walked y capacity 0 z
      begun z b = (z, record { start = z; room = room; begins = b; made = none refl refl })

      first : (s : y.Class) → y.In [] s → (y.final s ≡ true) ⊎ (y.final s ≡ false) → (z : Stage y) × Walked y capacity 0 z
      first s i (inl e) =
          begun (record { rows = first_row y s ∷ []; tried = []; phase = Runs 0 })
          (inr (s, record { starts = i; rows = refl; tried = refl; phase = ((λ q. refl), λ q. absurd (true≢false (sym e ∙ q))) }))
      first s i (inr e) =
          let f = found y (first_row y s ∷ []) 0 0 (omega arith) (omega arith) in
          begun (record { rows = first_row y s ∷ []; tried = []; phase = f.0 })
          (inr (
            s,
            record {
              starts = i;
              rows = refl;
              tried = refl;
              phase = ((λ q. absurd (true≢false (sym q ∙ e))), λ q. found_settles y (first_row y s ∷ []) [] 0 0 (done_none y (first_row y s ∷ []) [] refl) f.0 f.1);
            },
          ))

      go : Dec ((s : y.Class) × y.In [] s) → (z : Stage y) × Walked y capacity 0 z
      go (yes (s, i)) = first s i (cases_Bool (y.final s))
      go (no out) = begun (record { rows = []; tried = []; phase = Empty }) (inl (record { none = λ s i. out (s, i); rows = refl; tried = refl; phase = refl }))

  is_open : (f : Phase) → Dec (IsOpen f)
  is_open Idle = no (λ o. shut Idle o.0 o.1 (omega arith) o.2)
  is_open (Open p l) = yes (p, l, refl)
  is_open (Runs k) = no (λ o. shut (Runs k) o.0 o.1 (omega arith) o.2)
  is_open Empty = no (λ o. shut Empty o.0 o.1 (omega arith) o.2)
  is_open Spent = no (λ o. shut Spent o.0 o.1 (omega arith) o.2)

  advance_on : (capacity n budget : ℕ) (z : Stage y) → Walked y capacity n z → (m : ℕ) × (w : Stage y) × Advances y capacity budget z m w
  advance_on capacity n zero z w = (0, z, record { made = none refl refl; within = omega arith; stopped = λ h. absurd (omega arith) })
  advance_on capacity n (suc budget) z w = go (advance_on capacity n budget z w)
    where
      go : (m : ℕ) × (v : Stage y) × Advances y capacity budget z m v → (m : ℕ) × (v : Stage y) × Advances y capacity (suc budget) z m v
      go (m, v, a) = elim (is_open v.phase) [
        | yes o ↦
            let s = step_on capacity (n + m) v (advance_walked y capacity n budget m z v w a) o in (
              suc m,
              s.0,
              record {
                made = more a.made s.1 refl;
                within = omega (arith, a.within);
                stopped = λ h. absurd (omega (arith, advance_used y capacity budget m z v a o));
              },
            )
        | no o ↦ (m, v, record { made = a.made; within = omega (arith, a.within); stopped = λ h. o })
      ]

  pub progress_law : ProgressLaw y
  progress_law = record { begin = begin_on; step = step_on; advance = advance_on }
