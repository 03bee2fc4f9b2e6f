-- Paths and their classes, and the chains of rows.
use Rattle.std.proofs.Common.{◌≡◌, ℕ, zero, suc, ◌+◌, ◌<◌, ◌≤◌, ◌⊎◌, List, [], ◌∷◌, ◌++◌, length, get_or, take, Some, None, Option, sym, refl, ap, ◌∙◌, subst, inl, inr, arith}
use native.Mathlib.Decide.{dec_lt}
use Rattle.std.proofs.lemmas.List.{length_push, get_or_append_left, get_or_push, take_at, take_all, take-append-le}
use Rattle.search.specs.Systems.{System, Lawful}
use Rattle.search.specs.Rows.{Origin, Row, at, class_at, led_row, Absent, Trail, root, under}

-- Paths

-- a path has no link, or a last one
last_link : (path : List ℕ) → (path ≡ []) ⊎ ((before : List ℕ) × (l : ℕ) × (path ≡ before ++ l ∷ []))
last_link [] = inl refl
last_link (x ∷ xs) = go (last_link xs)
  where
    go : (xs ≡ []) ⊎ ((before : List ℕ) × (l : ℕ) × (xs ≡ before ++ l ∷ [])) → (x ∷ xs ≡ []) ⊎ ((before : List ℕ) × (l : ℕ) × (x ∷ xs ≡ before ++ l ∷ []))
    go (inl e) = inr ([], x, ap (λ (r : List ℕ). x ∷ r) e)
    go (inr (before, l, e)) = inr (x ∷ before, l, ap (λ (r : List ℕ). x ∷ r) e)

-- the links lead from the class of the path without links to this one
pub data Along (y : System) : List ℕ → y.Class → Type 0 where
  here : {path : List ℕ} {s : y.Class} → y.In [] s → path ≡ [] → Along y path s
  onto : {path : List ℕ} {t : y.Class} (before : List ℕ) (s : y.Class) (l : ℕ) → Along y before s → y.leads s l t → path ≡ before ++ l ∷ [] → Along y path t

module _ (y : System) (laws : Lawful y) where
  along_fuel : (n : ℕ) (path : List ℕ) (s : y.Class) → length path < n → y.In path s → Along y path s
  along_fuel zero path s h i = absurd (omega arith)
  along_fuel (suc n) path s h i = go (last_link path) (along_fuel n)
    where
      go : (path ≡ []) ⊎ ((before : List ℕ) × (l : ℕ) × (path ≡ before ++ l ∷ [])) → ((before : List ℕ) (r : y.Class) → length before < n → y.In before r → Along y before r) → Along y path s
      go (inl e) rest = here (subst (λ (x : List ℕ). y.In x s) e i) e
      go (inr (before, l, e)) rest =
          let b = laws.back before s l (subst (λ (x : List ℕ). y.In x s) e i) in
          onto before b.0 l (rest before b.0 (omega (arith, ap length e, length_push before l)) b.1) b.2 e

  pub along : (path : List ℕ) (s : y.Class) → y.In path s → Along y path s
  along path s i = along_fuel (suc (length path)) path s (omega arith) i

  pub along_start : {path : List ℕ} {s : y.Class} → Along y path s → (r : y.Class) × y.In [] r
  along_start {s = s} (here i e) = (s, i)
  along_start (onto before r l a d e) = along_start a

  along_one : {path : List ℕ} {s : y.Class} → Along y path s → (t : y.Class) → y.In path t → s ≡ t
  along_one {path} {s} (here i e) t j = laws.one_start s t i (subst (λ (x : List ℕ). y.In x t) e j)
  along_one {path} {s} (onto before r l a d e) t j =
      let b = laws.back before t l (subst (λ (x : List ℕ). y.In x t) e j) in
      let q : r ≡ b.0 = along_one a b.0 b.1 in
      laws.one_way b.0 s t l (subst (λ (x : y.Class). y.leads x l s) q d) b.2

  -- a path is in one class
  pub one_class : (path : List ℕ) (s t : y.Class) → y.In path s → y.In path t → s ≡ t
  one_class path s t i j = along_one (along path s i) t j

-- Rows

module _ {y : System} (rows : List (Row y)) (r : Row y) where
  pub push_length : length (rows ++ r ∷ []) ≡ length rows + 1
  push_length = length_push rows r

  pub push_old : (k : ℕ) → k < length rows → at (rows ++ r ∷ []) k ≡ at rows k
  push_old k h = get_or_append_left rows (r ∷ []) (record { class = y.blank; origin = None }) k h

  pub push_new : (k : ℕ) → k ≡ length rows → at (rows ++ r ∷ []) k ≡ r
  push_new k e = get_or_push rows r (record { class = y.blank; origin = None }) k (sym e)

  pub push_class : (k : ℕ) → k < length rows → class_at (rows ++ r ∷ []) k ≡ class_at rows k
  push_class k h = ap (λ (x : Row y). x.class) (push_old k h)

pub same_origin : (p l q m : ℕ) (o : Option Origin) → o ≡ Some (record { row = p; link = l }) → o ≡ Some (record { row = q; link = m }) → (p ≡ q) × (l ≡ m)
same_origin p l q m o a b =
    let e : ◌≡◌ {A = Option Origin} (Some (record { row = p; link = l })) (Some (record { row = q; link = m })) = sym a ∙ b in
    let f : ◌≡◌ {A = Origin} (record { row = p; link = l }) (record { row = q; link = m }) = cc in
    (ap (λ (x : Origin). x.row) f, ap (λ (x : Origin). x.link) f)

module _ {y : System} {rows : List (Row y)} where
  pub trail_below : {k : ℕ} {path : List ℕ} → Trail y rows k path → (k < length rows) × (length path ≤ k)
  trail_below (root z h o e) = (omega arith, omega (arith, ap length e))
  trail_below (under p l before h o lt t e) = (h, omega (arith, trail_below t, ap length e, length_push before l))

  pub trail_one : {k : ℕ} {path other : List ℕ} → Trail y rows k path → Trail y rows k other → path ≡ other
  trail_one (root z h o e) (root z' h' o' e') = e ∙ sym e'
  trail_one (root z h o e) (under p l before h' o' lt t e') = absurd (omega arith)
  trail_one (under p l before h o lt t e) (root z h' o' e') = absurd (omega arith)
  trail_one {k} (under p l before h o lt t e) (under q m other h' o' lt' t' e') =
      let s = same_origin p l q m (at rows k).origin o o' in
      let i : before ≡ other = trail_one t (subst (λ (x : ℕ). Trail y rows x other) (sym s.0) t') in
      e ∙ ap (λ (x : List ℕ). x ++ l ∷ []) i ∙ ap (λ (x : ℕ). other ++ x ∷ []) s.1 ∙ sym e'

  pub trail_top : {k : ℕ} {path : List ℕ} → Trail y rows k path → length path ≡ 0 → (k ≡ 0) × ((at rows k).origin ≡ None)
  trail_top {k} (root z h o e) n = (z, subst (λ (x : ℕ). (at rows x).origin ≡ None) (sym z) o)
  trail_top (under p l before h o lt t e) n = absurd (omega (arith, ap length e, length_push before l))

  pub trail_up : {k : ℕ} {path : List ℕ} (n : ℕ) → Trail y rows k path → length path ≡ suc n → (p : ℕ) × ((at rows k).origin ≡ Some (record { row = p; link = get_or path n 0 })) × (p < k) × Trail y rows p (take n path)
  trail_up n (root z h o e) q = absurd (omega (arith, ap length e))
  trail_up {k} {path} n (under p l before h o lt t e) q =
      let b : length before ≡ n = omega (arith, ap length e, length_push before l) in
      let last : get_or path n 0 ≡ l = ap (λ (x : List ℕ). get_or x n 0) e ∙ get_or_push before l 0 n b in
      let init : take n path ≡ before = ap (take n) e ∙ take_at before (l ∷ []) n b in
      (p, o ∙ ap (λ (x : ℕ). Some (record { row = p; link = x })) (sym last), lt, subst (Trail y rows p) (sym init) t)

  pub trail_part : {k : ℕ} {path : List ℕ} (n : ℕ) → Trail y rows k path → n ≤ length path → (a : ℕ) × (a ≤ k) × Trail y rows a (take n path)
  trail_part {k} {path} n (root z h o e) q = (k, omega arith, root z h o (ap (take n) e ∙ take_all n [] (omega arith)))
  trail_part {k} {path} n (under p l before h o lt t e) q = elim (dec_lt (length before) n) [
    | yes a ↦ (k, omega arith, subst (Trail y rows k) (sym (take_all n path (omega (arith, ap length e, length_push before l)))) (under p l before h o lt t e))
    | no a ↦
        let r = trail_part n t (omega arith) in
        let init : take n path ≡ take n before = ap (take n) e ∙ take-append-le n before (l ∷ []) (omega arith) in
        (r.0, omega (arith, r.1), subst (Trail y rows r.0) (sym init) r.2)
  ]

module _ {y : System} (rows : List (Row y)) (r : Row y) where
  pub trail_push : {k : ℕ} {path : List ℕ} → Trail y rows k path → Trail y (rows ++ r ∷ []) k path
  trail_push (root z h o e) = root z (omega (arith, push_length rows r)) (ap (λ (x : Row y). x.origin) (push_old rows r 0 h) ∙ o) e
  trail_push {k} (under p l before h o lt t e) =
      under p l before (omega (arith, push_length rows r)) (ap (λ (x : Row y). x.origin) (push_old rows r k h) ∙ o) lt (trail_push t) e

  pub trail_back : {k : ℕ} {path : List ℕ} → k < length rows → Trail y (rows ++ r ∷ []) k path → Trail y rows k path
  trail_back {k} h (root z h' o e) = root z (omega arith) (sym (ap (λ (x : Row y). x.origin) (push_old rows r 0 (omega arith))) ∙ o) e
  trail_back {k} h (under p l before h' o lt t e) =
      under p l before h (sym (ap (λ (x : Row y). x.origin) (push_old rows r k h)) ∙ o) lt (trail_back (omega arith) t) e

-- where row k came from
abbrev pub Came : (y : System) → List (Row y) → ℕ → Type 0
Came y rows k = (p : ℕ) × (l : ℕ) × ((at rows k).origin ≡ Some (record { row = p; link = l })) × (p < k) × y.leads (class_at rows p) l (class_at rows k)

-- what the rows of a walk are
pub record Whole (y : System) (rows : List (Row y)) : Type 0 where
  pub first : 0 < length rows → y.In [] (class_at rows 0) × ((at rows 0).origin ≡ None)
  pub came : (k : ℕ) → 0 < k → k < length rows → Came y rows k
  pub apart : (a b : ℕ) → a < b → b < length rows → class_at rows a ≡ class_at rows b → ⊥

module _ (y : System) (laws : Lawful y) (rows : List (Row y)) (w : Whole y rows) where
  -- a row's chain is a path in its class
  pub trail_in : {k : ℕ} {path : List ℕ} → Trail y rows k path → y.In path (class_at rows k)
  trail_in {k} {path} (root z h o e) =
      subst (λ (x : List ℕ). y.In x (class_at rows k)) (sym e) (subst (λ (x : ℕ). y.In [] (class_at rows x)) (sym z) (w.first h).0)
  trail_in {k} {path} (under p l before h o lt t e) =
      let c = w.came k (omega arith) h in
      let s = same_origin p l c.0 c.1 (at rows k).origin o c.2 in
      let d : y.leads (class_at rows p) l (class_at rows k) = subst (λ (x : ℕ). y.leads (class_at rows p) x (class_at rows k)) (sym s.1) (subst (λ (x : ℕ). y.leads (class_at rows x) c.1 (class_at rows k)) (sym s.0) c.4) in
      subst (λ (x : List ℕ). y.In x (class_at rows k)) (sym e) (laws.onward before (class_at rows p) (class_at rows k) l (trail_in t) d)

  trail_fuel : (n k : ℕ) → k < n → k < length rows → (path : List ℕ) × Trail y rows k path
  trail_fuel zero k h l = absurd (omega arith)
  trail_fuel (suc n) k h l = elim (dec_lt 0 k) [
    | yes p ↦
        let c = w.came k p l in
        let t = trail_fuel n c.0 (omega arith) (omega arith) in
        (t.0 ++ c.1 ∷ [], under c.0 c.1 t.0 l c.2 c.3 t.1 refl)
    | no p ↦ let some : 0 < length rows = omega arith in ([], root (omega arith) some (w.first some).1 refl)
  ]

  pub trail_of : (k : ℕ) → k < length rows → (path : List ℕ) × Trail y rows k path
  trail_of k h = trail_fuel (suc k) k (omega arith) h

  -- a path for each of the first n rows
  pub row_paths : (n : ℕ) → n ≤ length rows → (paths : List (List ℕ)) × (length paths ≡ n) × ((k : ℕ) → k < n → y.In (get_or paths k []) (class_at rows k))
  row_paths zero h = ([], refl, λ k o. absurd (omega arith))
  row_paths (suc n) h =
      let r = row_paths n (omega arith) in
      let t = trail_of n (omega arith) in (
        r.0 ++ t.0 ∷ [],
        omega (arith, length_push r.0 t.0, r.1),
        λ k o. elim (dec_lt k n) [
          | yes a ↦ subst (λ (x : List ℕ). y.In x (class_at rows k)) (sym (get_or_append_left r.0 (t.0 ∷ []) [] k (omega (arith, r.1)))) (r.2 k a)
          | no a ↦
              let e : k ≡ n = omega arith in
              subst (λ (x : List ℕ). y.In x (class_at rows k)) (sym (get_or_push r.0 t.0 [] k (r.1 ∙ sym e))) (subst (λ (x : ℕ). y.In t.0 (class_at rows x)) (sym e) (trail_in t.1))
        ],
      )

  module _ (p l : ℕ) (t : y.Class) (hp : p < length rows) (led : y.leads (class_at rows p) l t) (absent : Absent rows t) where
    came_more : (k : ℕ) (r : Row y) (q m : ℕ) → at (rows ++ led_row y p l t ∷ []) k ≡ r → r.origin ≡ Some (record { row = q; link = m }) → q < k → q < length rows → y.leads (class_at rows q) m r.class → Came y (rows ++ led_row y p l t ∷ []) k
    came_more k r q m e o lt h d = (
      q,
      m,
      ap (λ (x : Row y). x.origin) e ∙ o,
      lt,
      subst (λ (x : y.Class). y.leads x m (class_at (rows ++ led_row y p l t ∷ []) k)) (sym (push_class rows (led_row y p l t) q h))
          (subst (λ (x : Row y). y.leads (class_at rows q) m x.class) (sym e) d),
    )

    pub whole_push : Whole y (rows ++ led_row y p l t ∷ [])
    whole_push = record {
      first = λ h.
          let e = push_old rows (led_row y p l t) 0 (omega arith) in
          let f = w.first (omega arith) in
          (subst (λ (x : Row y). y.In [] x.class) (sym e) f.0, ap (λ (x : Row y). x.origin) e ∙ f.1);
      came = λ k pos h. elim (dec_lt k (length rows)) [
        | yes o ↦
            let c = w.came k pos o in
            came_more k (at rows k) c.0 c.1 (push_old rows (led_row y p l t) k o) c.2 c.3 (omega arith) c.4
        | no o ↦
            let e : k ≡ length rows = omega (arith, push_length rows (led_row y p l t)) in
            came_more k (led_row y p l t) p l (push_new rows (led_row y p l t) k e) refl (omega arith) hp led
      ];
      apart = λ a b ab h e. elim (dec_lt b (length rows)) [
        | yes o ↦ w.apart a b ab o (sym (push_class rows (led_row y p l t) a (omega arith)) ∙ e ∙ push_class rows (led_row y p l t) b o)
        | no o ↦
            let bn : b ≡ length rows = omega (arith, push_length rows (led_row y p l t)) in
            let ao : a < length rows = omega arith in
            absent a (ao, sym (push_class rows (led_row y p l t) a ao) ∙ e ∙ ap (λ (x : Row y). x.class) (push_new rows (led_row y p l t) b bn))
      ];
    }
