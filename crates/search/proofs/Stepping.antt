-- A step keeps what holds of a walk.
use Rattle.std.proofs.Common.{◌≡◌, ℕ, suc, ◌+◌, ◌*◌, ◌<◌, ◌≤◌, true, false, ◌⊎◌, List, [], ◌∷◌, ◌++◌, length, get_or, sym, refl, ap, ◌∙◌, subst, inl, inr, mul-le-mul_right, suc-mul, arith}
use native.Mathlib.Decide.{dec_lt}
use Rattle.std.proofs.lemmas.List.{length_push}
use Rattle.std.proofs.lemmas.Bool.{cases_Bool, true≢false}
use Rattle.search.specs.Systems.{System, Lawful}
use Rattle.search.specs.Rows.{Row, at, class_at, led_row, Absent, Trail, root, under, Pair, Before, Among, FirstWaits}
use Rattle.search.specs.Walks.{Phase, Runs, Outcome, Barred, Known, New, Full, Tries, Settles, Enters, After}
use Rattle.search.proofs.Trails.{along, push_length, push_new, push_class, same_origin, trail_below, trail_push, trail_back, trail_of, row_paths, one_class, whole_push}
use Rattle.search.proofs.Pairs.{Done, before_more, done_more, pair_push, done_push}
use Rattle.search.proofs.Breadth.{Meets, Kept, Front, Crowd, Told, reach, settle}

module _ (y : System) (laws : Lawful y) (capacity n : ℕ) (rows : List (Row y)) (tried : List (ℕ × ℕ)) (p l : ℕ) (w : Front y capacity n rows tried p l) (next : FirstWaits y rows tried p l) where
  -- no row more
  most_more : suc n ≤ length rows * y.links
  most_more = omega (arith, w.rank, next.0.0.1, mul-le-mul_right {m = suc p} {n = length rows} y.links w.held, suc-mul p y.links)

  pairs_more : (q m : ℕ) → ((p ≡ q) × (l ≡ m)) ⊎ Among tried q m → Pair y rows q m
  pairs_more q m (inl e) = subst (λ (x : ℕ). Pair y rows q x) e.1 (subst (λ (x : ℕ). Pair y rows x l) e.0 next.0.0)
  pairs_more q m (inr a) = w.kept.pairs q m a

  kept_more : Kept y capacity (suc n) rows ((p, l) ∷ tried)
  kept_more = record {
    whole = w.kept.whole;
    few = w.kept.few;
    ordered = w.kept.ordered;
    pairs = pairs_more;
    once = (next.0.1, w.kept.once);
    count = ap suc w.kept.count;
    most = most_more;
  }

  front_more : ((t : y.Class) (path : List ℕ) → y.leads (class_at rows p) l t → Trail y rows p path → Meets y rows t (suc (length path))) → Front y capacity (suc n) rows ((p, l) ∷ tried) p (suc l)
  front_more meets = record {
    kept = kept_more;
    held = w.held;
    link = omega (arith, next.0.0.1);
    near = w.near;
    closed = λ k m t path h b g u. pick k m t path h g u (before_more k m p l b);
    plain = w.plain;
    rank = omega (arith, w.rank);
    done = done_more y rows tried p l w.done;
  }
    where
      pick : (k m : ℕ) (t : y.Class) (path : List ℕ) → k < length rows → y.leads (class_at rows k) m t → Trail y rows k path → Before k m p l ⊎ ((k ≡ p) × (m ≡ l)) → Meets y rows t (suc (length path))
      pick k m t path h g u (inl b) = w.closed k m t path h b g u
      pick k m t path h g u (inr e) =
          meets t path
          (subst (λ (x : ℕ). y.leads (class_at rows p) x t) e.1 (subst (λ (x : ℕ). y.leads (class_at rows x) m t) e.0 g))
          (subst (λ (x : ℕ). Trail y rows x path) e.0 u)

  -- one row more
  module _ (t : y.Class) (led : y.leads (class_at rows p) l t) (absent : Absent rows t) where
    abbrev wider : List (Row y)
    wider = rows ++ led_row y p l t ∷ []

    len : length wider ≡ length rows + 1
    len = push_length rows (led_row y p l t)

    new_class : (k : ℕ) → k ≡ length rows → class_at wider k ≡ t
    new_class k e = ap (λ (x : Row y). x.class) (push_new rows (led_row y p l t) k e)

    old_class : (k : ℕ) → k < length rows → class_at wider k ≡ class_at rows k
    old_class k h = push_class rows (led_row y p l t) k h

    either : {A : Type 0} (k : ℕ) → k < length wider → (k < length rows → A) → (k ≡ length rows → A) → A
    either k h f g = elim (dec_lt k (length rows)) [ yes o ↦ f o | no o ↦ g (omega (arith, len)) ]

    back : {k : ℕ} {path : List ℕ} → k < length rows → Trail y wider k path → Trail y rows k path
    back h u = trail_back rows (led_row y p l t) h u

    -- the chain of the new row
    new_trail : {k : ℕ} {path : List ℕ} → k ≡ length rows → Trail y wider k path → (before : List ℕ) × Trail y rows p before × (length path ≡ suc (length before))
    new_trail e (root z h o q) = absurd (omega (arith, w.held))
    new_trail {k} {path} e (under r m before h o lt u q) =
        let s = same_origin r m p l (at wider k).origin o (ap (λ (x : Row y). x.origin) (push_new rows (led_row y p l t) k e)) in
        (before, back w.held (subst (λ (x : ℕ). Trail y wider x before) s.0 u), omega (arith, ap length q, length_push before m))

    made_trail : (path : List ℕ) → Trail y rows p path → Trail y wider (length rows) (path ++ l ∷ [])
    made_trail path u =
        under p l path (omega (arith, len)) (ap (λ (x : Row y). x.origin) (push_new rows (led_row y p l t) (length rows) refl)) w.held (trail_push rows (led_row y p l t) u) refl

    near_new : (k : ℕ) (path above : List ℕ) → Trail y wider k path → Trail y rows p above → length path ≤ suc (length above)
    near_new k path above u v =
        either k (trail_below u).0
        (λ o. w.near k path above (back o u) v)
        (λ o. let x = new_trail o u in omega (arith, w.kept.ordered p p x.0 above x.1 v (omega arith), x.2))

    ordered_new : (a b : ℕ) (path other : List ℕ) → Trail y wider a path → Trail y wider b other → a ≤ b → length path ≤ length other
    ordered_new a b path other u v h =
        either b (trail_below v).0
        (λ o. w.kept.ordered a b path other (back (omega arith) u) (back o v) h)
        (λ o. let x = new_trail o v in omega (arith, near_new a path x.0 u x.1, x.2))

    kept_new : length rows < capacity → Kept y capacity (suc n) wider ((p, l) ∷ tried)
    kept_new room = record {
      whole = whole_push y laws rows w.kept.whole p l t w.held led absent;
      few = omega (arith, len);
      ordered = ordered_new;
      pairs = λ q m a. pair_push y rows (led_row y p l t) q m (pairs_more q m a);
      once = (next.0.1, w.kept.once);
      count = ap suc w.kept.count;
      most = omega (arith, most_more, mul-le-mul_right {m = length rows} {n = length wider} y.links wide);
    }
      where
        wide : length rows ≤ length wider
        wide = omega (arith, len)

    closed_new : (k m : ℕ) (u : y.Class) (path : List ℕ) → k < length rows → y.leads (class_at rows k) m u → Trail y rows k path → Before k m p l ⊎ ((k ≡ p) × (m ≡ l)) → Meets y wider u (suc (length path))
    closed_new k m u path h g v (inl b) =
        let x = w.closed k m u path h b g v in
        (x.0, x.1, old_class x.0 (trail_below x.3).0 ∙ x.2, trail_push rows (led_row y p l t) x.3, x.4)
    closed_new k m u path h g v (inr e) =
        let g' : y.leads (class_at rows p) l u = subst (λ (x : ℕ). y.leads (class_at rows p) x u) e.1 (subst (λ (x : ℕ). y.leads (class_at rows x) m u) e.0 g) in (
          length rows,
          path ++ l ∷ [],
          new_class (length rows) refl ∙ laws.one_way (class_at rows p) t u l led g',
          made_trail path (subst (λ (x : ℕ). Trail y rows x path) e.0 v),
          omega (arith, length_push path l),
        )

    front_new : length rows < capacity → (y.final t ≡ true → ⊥) → Front y capacity (suc n) wider ((p, l) ∷ tried) p (suc l)
    front_new room other = record {
      kept = kept_new room;
      held = omega (arith, len, w.held);
      link = omega (arith, next.0.0.1);
      near = λ k path above u v. near_new k path above u (back w.held v);
      closed = λ k m u path h b g v.
          let o : k < length rows = below k m b in
          closed_new k m u path o (subst (λ (x : y.Class). y.leads x m u) (old_class k o) g) (back o v) (before_more k m p l b);
      plain = λ k h e. either k h
          (λ o. w.plain k o (subst (λ (x : y.Class). y.final x ≡ true) (old_class k o) e))
          (λ o. other (subst (λ (x : y.Class). y.final x ≡ true) (new_class k o) e));
      rank = omega (arith, w.rank);
      done = done_more y wider tried p l (done_push y rows (led_row y p l t) tried p l w.held w.kept.pairs w.done);
    }
      where
        below : (k m : ℕ) → Before k m p (suc l) → k < length rows
        below k m (inl b) = omega (arith, w.held)
        below k m (inr b) = omega (arith, w.held)

    -- the new row is final: no final path is shorter than its chain
    runs_new : y.final t ≡ true → (k : ℕ) → k ≡ length rows → Told y capacity (suc n) wider ((p, l) ∷ tried) (Runs k)
    runs_new fin k e = (
      omega (arith, len),
      subst (λ (x : y.Class). y.final x ≡ true) (sym (new_class k e)) fin,
      (λ a h f. either a h (λ o. absurd (w.plain a o (subst (λ (x : y.Class). y.final x ≡ true) (old_class a o) f))) (λ o. o ∙ sym e)),
      λ path u other s i f. shortest path u other s i f,
    )
      where
        close : (above : List ℕ) → Trail y rows p above → (a m : ℕ) (u : y.Class) (path : List ℕ) → a < length rows → y.leads (class_at rows a) m u → Trail y rows a path → length path < length above → Meets y rows u (suc (length path))
        close above v a m u path h g x lt = elim (dec_lt a p) [
          | yes o ↦ w.closed a m u path h (inl o) g x
          | no o ↦ absurd (omega (arith, w.kept.ordered p a above path v x (omega arith)))
        ]

        shortest : (path : List ℕ) → Trail y wider k path → (other : List ℕ) (s : y.Class) → y.In other s → y.final s ≡ true → length path ≤ length other
        shortest path u other s i f =
            let v = new_trail e u in
            elim (dec_lt (length v.0) (length other)) [
              | yes o ↦ omega (arith, v.2)
              | no o ↦
                  let q = reach y laws rows w.kept.whole (omega (arith, w.held)) (length v.0) (close v.0 v.1) (along y laws other s i) (omega arith) in
                  absurd (w.plain q.0 (trail_below q.3).0 (subst (λ (x : y.Class). y.final x ≡ true) (sym q.2) f))
            ]

    -- no room for it: the rows and the new one are one class more than there is room for
    crowd : capacity ≤ length rows → Crowd y capacity
    crowd full =
        let whole = whole_push y laws rows w.kept.whole p l t w.held led absent in
        let r = row_paths y laws wider whole (suc capacity) (omega (arith, len, w.kept.few)) in (
          r.0,
          record {
            in_class = λ k h. (class_at wider k, r.2 k (omega (arith, r.1)));
            apart = λ a b ab h s i j.
                whole.apart a b ab (omega (arith, len, w.kept.few, r.1))
                (one_class y laws (get_or r.0 a []) (class_at wider a) s (r.2 a (omega (arith, r.1))) i
                ∙ one_class y laws (get_or r.0 b []) s (class_at wider b) j (r.2 b (omega (arith, r.1))));
          },
          r.1,
        )

  abbrev Holds : List (Row y) → Phase → Type 0
  Holds after f = Kept y capacity (suc n) after ((p, l) ∷ tried) × Told y capacity (suc n) after ((p, l) ∷ tried) f

  stay : ((t : y.Class) (path : List ℕ) → y.leads (class_at rows p) l t → Trail y rows p path → Meets y rows t (suc (length path))) → (after : List (Row y)) (f : Phase) → after ≡ rows → Settles y after ((p, l) ∷ tried) f → Holds after f
  stay meets after f e s =
      let x : Settles y rows ((p, l) ∷ tried) f = subst (λ (r : List (Row y)). Settles y r ((p, l) ∷ tried) f) e s in
      subst (λ (r : List (Row y)). Holds r f) (sym e) (kept_more, settle y laws capacity (suc n) rows ((p, l) ∷ tried) p (suc l) (front_more meets) f x)

  enter : (t : y.Class) → y.leads (class_at rows p) l t → Absent rows t → length rows < capacity → (k : ℕ) → k ≡ length rows → (f : Phase) → Enters y (rows ++ led_row y p l t ∷ []) ((p, l) ∷ tried) k f → Holds (rows ++ led_row y p l t ∷ []) f
  enter t led absent room k e f s = go (cases_Bool (y.final t))
    where
      class : class_at (rows ++ led_row y p l t ∷ []) k ≡ t
      class = ap (λ (x : Row y). x.class) (push_new rows (led_row y p l t) k e)

      go : (y.final t ≡ true) ⊎ (y.final t ≡ false) → Holds (rows ++ led_row y p l t ∷ []) f
      go (inl fin) =
          let q : f ≡ Runs k = s.0 (ap y.final class ∙ fin) in
          (kept_new t led absent room, subst (Told y capacity (suc n) (rows ++ led_row y p l t ∷ []) ((p, l) ∷ tried)) (sym q) (runs_new t led absent fin k e))
      go (inr fin) = (
        kept_new t led absent room,
        settle y laws capacity (suc n) (rows ++ led_row y p l t ∷ []) ((p, l) ∷ tried) p (suc l) (front_new t led absent room (λ c. true≢false (sym c ∙ fin))) f (s.1 (ap y.final class ∙ fin)),
      )

  pub stepped : (o : Outcome) (after : List (Row y)) (f : Phase) → Tries y capacity rows p l o after → After y after ((p, l) ∷ tried) o f → Holds after f
  stepped Barred after f t a = stay (λ u path g v. absurd (t.0 (u, g))) after f t.1 a
  stepped (Known k) after f t a =
      stay (λ u path g v.
      let x = trail_of y laws rows w.kept.whole k t.2.0 in
      (k, x.0, t.2.1 ∙ laws.one_way (class_at rows p) t.0 u l t.1 g, x.1, w.near k x.0 path x.1 v))
      after f t.3 a
  stepped (New k) after f t a =
      subst (λ (r : List (Row y)). Holds r f) (sym t.5) (enter t.0 t.1 t.2 t.3 k t.4 f (subst (λ (r : List (Row y)). Enters y r ((p, l) ∷ tried) k f) t.5 a))
  stepped Full after f t a =
      subst (λ (r : List (Row y)). Holds r f) (sym t.4) (kept_more, subst (Told y capacity (suc n) rows ((p, l) ∷ tried)) (sym a) (w.plain, crowd t.0 t.1 t.2 t.3))

  -- exactly the pairs up to the one tried are tried now
  pub done_after : (o : Outcome) (after : List (Row y)) → Tries y capacity rows p l o after → Done y after ((p, l) ∷ tried) p (suc l)
  done_after Barred after t = subst (λ (r : List (Row y)). Done y r ((p, l) ∷ tried) p (suc l)) (sym t.1) (done_more y rows tried p l w.done)
  done_after (Known k) after t = subst (λ (r : List (Row y)). Done y r ((p, l) ∷ tried) p (suc l)) (sym t.3) (done_more y rows tried p l w.done)
  done_after (New k) after t =
      subst (λ (r : List (Row y)). Done y r ((p, l) ∷ tried) p (suc l)) (sym t.5)
      (done_more y (rows ++ led_row y p l t.0 ∷ []) tried p l (done_push y rows (led_row y p l t.0) tried p l w.held w.kept.pairs w.done))
  done_after Full after t = subst (λ (r : List (Row y)). Done y r ((p, l) ∷ tried) p (suc l)) (sym t.4) (done_more y rows tried p l w.done)
