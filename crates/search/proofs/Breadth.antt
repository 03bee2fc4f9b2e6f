-- The walk goes by breadth: what it has closed, and what it reaches.
use Rattle.std.proofs.Common.{◌≡◌, ℕ, suc, ◌+◌, ◌*◌, ◌<◌, ◌≤◌, true, List, [], length, sym, refl, ap, ◌∙◌, subst, inl, inr, mul-le-mul_right, suc-mul, arith}
use native.Mathlib.Decide.{dec_lt}
use Rattle.std.proofs.lemmas.List.{length_push}
use Rattle.search.specs.Systems.{System, Lawful}
use Rattle.search.specs.Rows.{Row, class_at, Trail, root, Pair, Before, Among, Once, FirstWaits, NoneWaits}
use Rattle.search.specs.Walks.{Phase, Idle, Open, Runs, Empty, Spent, Stage, Settles}
use Rattle.search.specs.Places.{Found}
use Rattle.search.specs.Laws.{Different}
use Rattle.search.proofs.Trails.{Along, here, onto, along, trail_below, Whole, trail_of}
use Rattle.search.proofs.Pairs.{Done, settles_found, done_at}

-- a row within n links has the class
abbrev pub Meets : (y : System) → List (Row y) → y.Class → ℕ → Type 0
Meets y rows s n = (k : ℕ) × (path : List ℕ) × (class_at rows k ≡ s) × Trail y rows k path × (length path ≤ n)

-- no row is final
abbrev pub Plain : (y : System) → List (Row y) → Type 0
Plain y rows = (k : ℕ) → k < length rows → y.final (class_at rows k) ≡ true → ⊥

-- what holds of the rows and the pairs tried, whatever the state
pub record Kept (y : System) (capacity n : ℕ) (rows : List (Row y)) (tried : List (ℕ × ℕ)) : Type 0 where
  pub whole : Whole y rows
  pub few : length rows ≤ capacity
  pub ordered : (a b : ℕ) (path other : List ℕ) → Trail y rows a path → Trail y rows b other → a ≤ b → length path ≤ length other
  pub pairs : (p l : ℕ) → Among tried p l → Pair y rows p l
  pub once : Once tried
  pub count : length tried ≡ n
  pub most : n ≤ length rows * y.links

-- the pairs before row p and link l are tried, and no row is final yet
pub record Front (y : System) (capacity n : ℕ) (rows : List (Row y)) (tried : List (ℕ × ℕ)) (p l : ℕ) : Type 0 where
  pub kept : Kept y capacity n rows tried
  pub held : p < length rows
  pub link : l ≤ y.links
  pub near : (k : ℕ) (path above : List ℕ) → Trail y rows k path → Trail y rows p above → length path ≤ suc (length above)
  pub closed : (k m : ℕ) (t : y.Class) (path : List ℕ) → k < length rows → Before k m p l → y.leads (class_at rows k) m t → Trail y rows k path → Meets y rows t (suc (length path))
  pub plain : Plain y rows
  pub rank : n ≤ p * y.links + l
  pub done : Done y rows tried p l

-- paths of different classes, one more than there is room for rows
abbrev pub Crowd : (y : System) → ℕ → Type 0
Crowd y capacity = (paths : List (List ℕ)) × Different y paths × (length paths ≡ suc capacity)

-- what a state says
abbrev pub Told : (y : System) → ℕ → ℕ → List (Row y) → List (ℕ × ℕ) → Phase → Type 0
Told y capacity n rows tried Idle = ⊥
Told y capacity n rows tried (Open p l) = Front y capacity n rows tried p l × FirstWaits y rows tried p l
Told y capacity n rows tried (Runs k) =
    (k < length rows) × (y.final (class_at rows k) ≡ true) × ((a : ℕ) → a < length rows → y.final (class_at rows a) ≡ true → a ≡ k)
    × ((path : List ℕ) → Trail y rows k path → (other : List ℕ) (s : y.Class) → y.In other s → y.final s ≡ true → length path ≤ length other)
Told y capacity n rows tried Empty =
    NoneWaits y rows tried × Plain y rows × ((path : List ℕ) (s : y.Class) → y.In path s → y.final s ≡ true → ⊥)
Told y capacity n rows tried Spent = Plain y rows × Crowd y capacity

abbrev pub Sound : (y : System) → ℕ → ℕ → Stage y → Type 0
Sound y capacity n z = Kept y capacity n z.rows z.tried × Told y capacity n z.rows z.tried z.phase

module _ (y : System) (laws : Lawful y) where
  -- a path of at most d links ends in a row's class, where the rows nearer than d are closed
  pub reach : (rows : List (Row y)) → Whole y rows → 0 < length rows → (d : ℕ)
      → ((k m : ℕ) (t : y.Class) (path : List ℕ) → k < length rows → y.leads (class_at rows k) m t → Trail y rows k path → length path < d → Meets y rows t (suc (length path)))
      → {path : List ℕ} {s : y.Class} → Along y path s → length path ≤ d → Meets y rows s (length path)
  reach rows w some d close {path} {s} (here i e) h =
      let f = w.first some in
      (0, [], laws.one_start (class_at rows 0) s f.0 i, root refl some f.1 refl, omega arith)
  reach rows w some d close {path} {s} (onto before r l a g e) h =
      let len : length path ≡ length before + 1 = ap length e ∙ length_push before l in
      let q = reach rows w some d close a (omega arith) in
      let led : y.leads (class_at rows q.0) l s = subst (λ (x : y.Class). y.leads x l s) (sym q.2) g in
      let u = close q.0 l s q.1 (trail_below q.3).0 led q.3 (omega (arith, q.4)) in
      (u.0, u.1, u.2, u.3, omega (arith, u.4, q.4))

  pub leads_pair : (rows : List (Row y)) (k m : ℕ) (t : y.Class) → k < length rows → y.leads (class_at rows k) m t → Pair y rows k m
  leads_pair rows k m t h g = (h, laws.numbered (class_at rows k) t m g, laws.begun (class_at rows k) t m g)

rank_up : (p q k j n : ℕ) → k ≤ n → p < q → p * n + k ≤ q * n + j
rank_up p q k j n h l = omega (arith, mul-le-mul_right {m = suc p} {n = q} n l, suc-mul p n)

module _ (y : System) (laws : Lawful y) (capacity n : ℕ) (rows : List (Row y)) (tried : List (ℕ × ℕ)) (p l : ℕ) (w : Front y capacity n rows tried p l) where
  pub front_at : (q m : ℕ) → Settles y rows tried (Open q m) → Front y capacity n rows tried q m
  front_at q m s = record {
    kept = w.kept;
    held = f.0.0;
    link = omega (arith, f.0.1);
    near = λ k path above t u.
        let v = trail_of y laws rows w.kept.whole p w.held in
        omega (arith, w.near k path v.0 t v.1, w.kept.ordered p q v.0 above v.1 u later);
    closed = λ k j t path h b g u. w.closed k j t path h (f.2 k j (leads_pair y laws rows k j t h g) b) g u;
    plain = w.plain;
    rank = elim (dec_lt p q) [ yes h ↦ omega (arith, rank_up p q l m y.links w.link h, w.rank) | no h ↦ same (omega (arith, later)) ];
    done = done_at y rows tried p l w.done q m s;
  }
    where
      f : Found y rows p l (Open q m)
      f = settles_found y rows tried p l w.done (Open q m) s

      later : p ≤ q
      later = elim (dec_lt q p) [ yes h ↦ absurd (f.1 (inl h)) | no h ↦ omega arith ]

      same : q ≡ p → n ≤ q * y.links + m
      same e = elim (dec_lt m l) [ yes h ↦ absurd (f.1 (inr (e, h))) | no h ↦ omega (arith, ap (λ (x : ℕ). x * y.links) e, w.rank) ]

  pub settle : (f : Phase) → Settles y rows tried f → Told y capacity n rows tried f
  settle Idle s = s
  settle (Open q m) s = (front_at q m s, s)
  settle (Runs k) s = absurd s
  settle Empty s = (
    s,
    w.plain,
    λ path t i e.
        let f = settles_found y rows tried p l w.done Empty s in
        let q = reach y laws rows w.kept.whole (omega (arith, w.held)) (length path) (λ k m u v h g tr lt. w.closed k m u v h (f k m (leads_pair y laws rows k m u h g)) g tr) (along y laws path t i) (omega arith) in
        w.plain q.0 (trail_below q.3).0 (subst (λ (x : y.Class). y.final x ≡ true) (sym q.2) e),
  )
  settle Spent s = absurd s
