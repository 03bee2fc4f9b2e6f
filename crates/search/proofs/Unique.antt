-- There is one walk.
use Rattle.std.proofs.Common.{◌≡◌, ℕ, ◌+◌, ◌<◌, ◌≤◌, Bool, true, false, List, [], ◌∷◌, ◌++◌, sym, refl, ap, ◌∙◌, subst, inl, inr, arith}
use native.Mathlib.Decide.{dec_lt}
use Rattle.search.specs.Systems.{System, Lawful}
use Rattle.search.specs.Rows.{Row, class_at, first_row, led_row, HeldAt, Absent}
use Rattle.search.specs.Walks.{Phase, Open, IsOpen, Stage, Outcome, Barred, Known, New, Full, Tries, Settles, Enters, After, Begins, Step, Steps, none, more, Advances, Walked}
use Rattle.search.specs.Laws.{DeterminedLaw, BudgetLaw}
use Rattle.search.proofs.Pairs.{settles_one}

module _ (y : System) where
  pub same_stage : (v w : Stage y) → v.rows ≡ w.rows → v.tried ≡ w.tried → v.phase ≡ w.phase → v ≡ w
  same_stage v w p q r = λ i. record { rows = p i; tried = q i; phase = r i }

  enters_one : (rows : List (Row y)) (tried : List (ℕ × ℕ)) (k : ℕ) (f g : Phase) → Enters y rows tried k f → Enters y rows tried k g → f ≡ g
  enters_one rows tried k f g s t = go (y.final (class_at rows k)) refl
    where
      go : (b : Bool) → y.final (class_at rows k) ≡ b → f ≡ g
      go true e = s.0 e ∙ sym (t.0 e)
      go false e = settles_one y rows tried f g (s.1 e) (t.1 e)

module _ (y : System) (laws : Lawful y) (capacity : ℕ) (rows : List (Row y)) (p l : ℕ) where
  one : (t u : y.Class) → y.leads (class_at rows p) l t → y.leads (class_at rows p) l u → t ≡ u
  one t u a b = laws.one_way (class_at rows p) t u l a b

  clash : (t u : y.Class) (k : ℕ) → y.leads (class_at rows p) l t → y.leads (class_at rows p) l u → HeldAt rows t k → Absent rows u → ⊥
  clash t u k a b h n = n k (h.0, h.1 ∙ one t u a b)

  -- a pair is met in one way, and leaves the same rows
  tries_one : (o o' : Outcome) (a a' : List (Row y)) (tried : List (ℕ × ℕ)) (f f' : Phase) → Tries y capacity rows p l o a → Tries y capacity rows p l o' a' → After y a tried o f → After y a' tried o' f' → (a ≡ a') × (f ≡ f')
  tries_one Barred Barred a a' tried f f' s t x z =
      let e : a ≡ a' = s.1 ∙ sym t.1 in
      (e, settles_one y a tried f f' x (subst (λ (r : List (Row y)). Settles y r tried f') (sym e) z))
  tries_one Barred (Known k) a a' tried f f' s t x z = absurd (s.0 (t.0, t.1))
  tries_one Barred (New k) a a' tried f f' s t x z = absurd (s.0 (t.0, t.1))
  tries_one Barred Full a a' tried f f' s t x z = absurd (s.0 (t.0, t.1))
  tries_one (Known k) Barred a a' tried f f' s t x z = absurd (t.0 (s.0, s.1))
  tries_one (Known k) (Known j) a a' tried f f' s t x z =
      let e : a ≡ a' = s.3 ∙ sym t.3 in
      (e, settles_one y a tried f f' x (subst (λ (r : List (Row y)). Settles y r tried f') (sym e) z))
  tries_one (Known k) (New j) a a' tried f f' s t x z = absurd (clash s.0 t.0 k s.1 t.1 s.2 t.2)
  tries_one (Known k) Full a a' tried f f' s t x z = absurd (clash s.0 t.0 k s.1 t.1 s.2 t.2)
  tries_one (New k) Barred a a' tried f f' s t x z = absurd (t.0 (s.0, s.1))
  tries_one (New k) (Known j) a a' tried f f' s t x z = absurd (clash t.0 s.0 j t.1 s.1 t.2 s.2)
  tries_one (New k) (New j) a a' tried f f' s t x z =
      let e : a ≡ a' = s.5 ∙ ap (λ (u : y.Class). rows ++ led_row y p l u ∷ []) (one s.0 t.0 s.1 t.1) ∙ sym t.5 in
      let i : j ≡ k = t.4 ∙ sym s.4 in
      let z' : Enters y a tried j f' = subst (λ (r : List (Row y)). Enters y r tried j f') (sym e) z in
      (e, enters_one y a tried k f f' x (subst (λ (r : ℕ). Enters y a tried r f') i z'))
  tries_one (New k) Full a a' tried f f' s t x z = absurd (omega (arith, s.3, t.3))
  tries_one Full Barred a a' tried f f' s t x z = absurd (t.0 (s.0, s.1))
  tries_one Full (Known j) a a' tried f f' s t x z = absurd (clash t.0 s.0 j t.1 s.1 t.2 s.2)
  tries_one Full (New j) a a' tried f f' s t x z = absurd (omega (arith, s.3, t.3))
  tries_one Full Full a a' tried f f' s t x z = (s.4 ∙ sym t.4, x ∙ sym z)

module _ (y : System) (laws : Lawful y) (capacity : ℕ) where
  step_one : (v w u : Stage y) → Step y capacity v w → Step y capacity v u → w ≡ u
  step_one v w u s t =
      let q : Open t.place t.link ≡ Open s.place s.link = sym t.is_open ∙ s.is_open in
      let ep : t.place ≡ s.place = cc in
      let el : t.link ≡ s.link = cc in
      go t.place t.link ep el t.tries t.tried
    where
      go : (p l : ℕ) → p ≡ s.place → l ≡ s.link → Tries y capacity v.rows p l t.outcome u.rows → u.tried ≡ (p, l) ∷ v.tried → w ≡ u
      go p l ep el tries tried =
          let et : w.tried ≡ u.tried = s.tried ∙ sym (ap (λ (x : ℕ × ℕ). x ∷ v.tried) (λ i. (ep i, el i))) ∙ sym tried in
          let tries' = subst (λ (x : ℕ). Tries y capacity v.rows s.place x t.outcome u.rows) el (subst (λ (x : ℕ). Tries y capacity v.rows x l t.outcome u.rows) ep tries) in
          let after' = subst (λ (x : List (ℕ × ℕ)). After y u.rows x t.outcome u.phase) (sym et) t.after in
          let e = tries_one y laws capacity v.rows s.place s.link s.outcome t.outcome w.rows u.rows w.tried w.phase u.phase s.tries tries' s.after after' in
          same_stage y w u e.0 et e.1

  pub steps_one : (from : Stage y) {m n : ℕ} {v w : Stage y} → Steps y capacity from m v → Steps y capacity from n w → m ≡ n → v ≡ w
  steps_one from (none a b) (none c d) e = b ∙ sym d
  steps_one from (none a b) (more s t c) e = absurd (omega arith)
  steps_one from (more s t c) (none a b) e = absurd (omega arith)
  steps_one from {v = v} {w = w} (more {v = v₁} s t c) (more {v = w₁} s' t' c') e =
      let q : v₁ ≡ w₁ = steps_one from s s' (omega arith) in
      step_one v₁ v w t (subst (λ (x : Stage y). Step y capacity x w) (sym q) t')

  -- a walk that goes further was open
  steps_past : (from : Stage y) {m n : ℕ} {v w : Stage y} → Steps y capacity from m v → Steps y capacity from n w → m < n → IsOpen v.phase
  steps_past from s (none a b) l = absurd (omega arith)
  steps_past from {m} s (more {m = k} {v = u} s' t c) l = elim (dec_lt m k) [
    | yes h ↦ steps_past from s s' h
    | no h ↦ subst (λ (x : Stage y). IsOpen x.phase) (steps_one from s' s (omega arith)) (t.place, t.link, t.is_open)
  ]

  pub begins_one : (v w : Stage y) → Begins y v → Begins y w → v ≡ w
  begins_one v w (inl a) (inl b) = same_stage y v w (a.rows ∙ sym b.rows) (a.tried ∙ sym b.tried) (a.phase ∙ sym b.phase)
  begins_one v w (inl a) (inr b) = absurd (a.none b.0 b.1.starts)
  begins_one v w (inr a) (inl b) = absurd (b.none a.0 a.1.starts)
  begins_one v w (inr a) (inr b) =
      let e : v.rows ≡ w.rows = a.1.rows ∙ ap (λ (x : y.Class). first_row y x ∷ []) (laws.one_start a.0 b.0 a.1.starts b.1.starts) ∙ sym b.1.rows in
      let f : Enters y v.rows [] 0 w.phase = subst (λ (x : List (Row y)). Enters y x [] 0 w.phase) (sym e) b.1.phase in
      same_stage y v w e (a.1.tried ∙ sym b.1.tried) (enters_one y v.rows [] 0 v.phase w.phase a.1.phase f)

  pub walk_one : (n : ℕ) (v w : Stage y) → Walked y capacity n v → Walked y capacity n w → v ≡ w
  walk_one n v w a b =
      let e = begins_one a.start b.start a.begins b.begins in
      steps_one a.start a.made (subst (λ (x : Stage y). Steps y capacity x n w) (sym e) b.made) refl

  pub advance_one : (budget m n : ℕ) (z v w : Stage y) → Advances y capacity budget z m v → Advances y capacity budget z n w → (m ≡ n) × (v ≡ w)
  advance_one budget m n z v w a b =
      let le : n ≤ m = elim (dec_lt m n) [ yes h ↦ absurd (a.stopped (omega (arith, b.within)) (steps_past z a.made b.made h)) | no h ↦ omega arith ] in
      let ge : m ≤ n = elim (dec_lt n m) [ yes h ↦ absurd (b.stopped (omega (arith, a.within)) (steps_past z b.made a.made h)) | no h ↦ omega arith ] in
      let e : m ≡ n = omega arith in
      (e, steps_one z a.made b.made e)

module _ (y : System) (capacity : ℕ) where
  join_steps : (n : ℕ) (from v : Stage y) → Steps y capacity from n v → {m : ℕ} {w : Stage y} → Steps y capacity v m w → Steps y capacity from (n + m) w
  join_steps n from v s {m} {w} (none a b) = subst (λ (x : ℕ). Steps y capacity from x w) e (subst (λ (x : Stage y). Steps y capacity from n x) (sym b) s)
    where
      e : n ≡ n + m
      e = omega arith
  join_steps n from v s (more s' t c) = more (join_steps n from v s s') t (omega arith)

  pub advance_walked : (n budget m : ℕ) (v w : Stage y) → Walked y capacity n v → Advances y capacity budget v m w → Walked y capacity (n + m) w
  advance_walked n budget m v w a b = record { start = a.start; room = a.room; begins = a.begins; made = join_steps n a.start v a.made b.made }

  pub advance_used : (budget m : ℕ) (v w : Stage y) → Advances y capacity budget v m w → IsOpen w.phase → m ≡ budget
  advance_used budget m v w a o = elim (dec_lt m budget) [ yes h ↦ absurd (a.stopped h o) | no h ↦ omega (arith, a.within) ]

pub determined_law : (y : System) → Lawful y → DeterminedLaw y
determined_law y laws = record { walk = walk_one y laws; advance = advance_one y laws }

pub budget_law : (y : System) → BudgetLaw y
budget_law y = record { walked = advance_walked y; used = advance_used y }
