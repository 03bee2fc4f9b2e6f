-- One round of the closing: the algebra, without the code.
use Rattle.std.proofs.Common.{◌≡◌, ℕ, ◌+◌, ◌<◌, ◌≤◌, true, false, ◌⊎◌, List, [], ◌∷◌, ◌++◌, length, sym, refl, ap, ◌∙◌, subst, inl, inr, ⊎_elim, arith}
use Rattle.std.proofs.lemmas.Bool.{cases_eq, cases_Bool, both_ways, cond-true, cond-false}
use Rattle.closure.specs.Kinds.{Kind, Laws, AsGood, better_of}
use Rattle.closure.specs.Walks.{Walk, weight, Bad, Attained, Closure}
use Rattle.closure.specs.Closings.{Near}
use Rattle.closure.specs.Rounds.{Given}
use Rattle.closure.proofs.Places.{Within, Distinct, Shared, shared, within_more, within_join, within_left, within_mid, within_right, distinct_join, pigeons}

-- a walk by places below k, each at most once
pub record Path {W : Type 0} (kind : Kind W) (t : ℕ → ℕ → W) (k i j : ℕ) (w : W) : Type 0 where
  pub by : List ℕ
  pub within : Within k by
  pub once : Distinct by
  pub is : w ≡ weight kind t i by j

-- the table d, before the round k
pub record Good {W : Type 0} (kind : Kind W) (n k : ℕ) (t d : ℕ → ℕ → W) : Type 0 where
  pub below : (i j : ℕ) → i < n → j < n → AsGood kind (d i j) (t i j)
  pub tri : (i j m : ℕ) → i < n → j < n → m < k → AsGood kind (d i j) (kind.follow (d i m) (d m j))
  pub diag : (i : ℕ) → i < n → AsGood kind kind.unit (d i i)
  pub path : (i j : ℕ) → i < n → j < n → Path kind t k i j (d i j)

-- where there are no more rounds, the table u is closed
pub record Ended {W : Type 0} (kind : Kind W) (n k : ℕ) (t u : ℕ → ℕ → W) : Type 0 where
  pub closed : Given kind n t → n ≤ k → Closure kind n t u × Near kind n u

-- what the round k makes of an entry
abbrev pub relaxed : {W : Type 0} → Kind W → (ℕ → ℕ → W) → ℕ → ℕ → ℕ → W
relaxed kind d k i j = better_of kind (kind.follow (d i k) (d k j)) (d i j)

module _ {W : Type 0} {kind : Kind W} (laws : Laws kind) where
  pub weight_join : (t : ℕ → ℕ → W) (i j k : ℕ) (ps qs : List ℕ) → weight kind t i (ps ++ k ∷ qs) j ≡ kind.follow (weight kind t i ps k) (weight kind t k qs j)
  weight_join t i j k [] qs = refl
  weight_join t i j k (p ∷ ps) qs = ap (kind.follow (t i p)) (weight_join t p j k ps qs) ∙ sym (laws.assoc (t i p) (weight kind t p ps k) (weight kind t k qs j))

  -- what is better is as good
  pub better_good : (a b : W) → kind.better a b ≡ true → AsGood kind a b
  better_good a b e = ⊎_elim (λ h. h) (λ h. absurd (both_ways _ h e)) (laws.total a b)

  le_to : {a b c : W} → AsGood kind a b → b ≡ c → AsGood kind a c
  le_to {a} h e = subst (λ x. AsGood kind a x) e h

  le_from : {a b c : W} → a ≡ b → AsGood kind b c → AsGood kind a c
  le_from {c = c} e h = subst (λ x. AsGood kind x c) (sym e) h

  le_both : (a b c d : W) → AsGood kind a b → AsGood kind c d → AsGood kind (kind.follow a c) (kind.follow b d)
  le_both a b c d h k = laws.transitive _ _ _ (laws.keeps_right a b c h) (laws.keeps_left c d b k)

  -- a table's entries reach as far as their walks have links
  pub weight_reach : (n : ℕ) (t : ℕ → ℕ → W) → Given kind n t → (i j : ℕ) (ps : List ℕ) → i < n → j < n → Within n ps → kind.reach (1 + length ps) (weight kind t i ps j)
  weight_reach n t r i j [] hi hj w = r.each i j hi hj
  weight_reach n t r i j (p ∷ ps) hi hj w = laws.reach_more (1 + (1 + length ps)) _ _ (omega arith) (laws.reach_follow 1 (1 + length ps) _ _ (r.each i p hi w.0) (weight_reach n t r p j ps w.0 hj w.1))

  module _ {n k : ℕ} {t d : ℕ → ℕ → W} (good : Good kind n k t d) where
    -- an entry is at least as good as each walk by places below k
    pub best_below : k ≤ n → (i j : ℕ) (ps : List ℕ) → i < n → j < n → Within k ps → AsGood kind (d i j) (weight kind t i ps j)
    best_below h i j [] hi hj w = good.below i j hi hj
    best_below h i j (p ∷ ps) hi hj w =
        let a = w.0 in
        let hp : p < n = omega arith in
        laws.transitive _ _ _ (good.tri i j p hi hj a) (le_both _ _ _ _ (good.below i p hi hp) (best_below h p j ps hp hj w.1))

    pub col : k < n → (i : ℕ) → i < n → kind.better (kind.follow (d i k) (d k k)) (d i k) ≡ false
    col h i hi = le_from (sym (laws.unit_right (d i k))) (laws.keeps_left kind.unit (d k k) (d i k) (good.diag k h))

    pub row : k < n → (j : ℕ) → j < n → kind.better (kind.follow (d k k) (d k j)) (d k j) ≡ false
    row h j hj = le_from (sym (laws.unit_left (d k j))) (laws.keeps_right kind.unit (d k k) (d k j) (good.diag k h))

    pub col_kept : k < n → (i : ℕ) → i < n → relaxed kind d k i k ≡ d i k
    col_kept h i hi = cond-false _ _ _ (col h i hi)

    pub row_kept : k < n → (j : ℕ) → j < n → relaxed kind d k k j ≡ d k j
    row_kept h j hj = cond-false _ _ _ (row h j hj)

    relaxed_old : (i j : ℕ) → AsGood kind (relaxed kind d k i j) (d i j)
    relaxed_old i j =
        ⊎_elim
        (λ e. le_from (cond-true _ _ _ e) (better_good _ _ e))
        (λ e. le_from (cond-false _ _ _ e) (laws.reflexive _))
        (cases_Bool (kind.better (kind.follow (d i k) (d k j)) (d i j)))

    relaxed_via : (i j : ℕ) → AsGood kind (relaxed kind d k i j) (kind.follow (d i k) (d k j))
    relaxed_via i j =
        ⊎_elim
        (λ e. le_from (cond-true _ _ _ e) (laws.reflexive _))
        (λ e. le_from (cond-false _ _ _ e) e)
        (cases_Bool (kind.better (kind.follow (d i k) (d k j)) (d i j)))

    -- where two walks meet at a place below k, the walk through k is no better than what is there
    meets : k < n → (turn : (m : ℕ) → m < k → AsGood kind kind.unit (kind.follow (d m k) (d k m))) → (i j : ℕ) → i < n → j < n → (p : Path kind t k i k (d i k)) (q : Path kind t k k j (d k j)) → Shared p.by q.by → AsGood kind (d i j) (kind.follow (d i k) (d k j))
    meets h turn i j hi hj p q s =
        let m = s.m in
        let a = s.first.front in
        let b = s.first.back in
        let e = s.second.front in
        let f = s.second.back in
        let wp : Within k (a ++ m ∷ b) = subst (λ x. Within k x) s.first.is p.within in
        let wq : Within k (e ++ m ∷ f) = subst (λ x. Within k x) s.second.is q.within in
        let hm : m < k = within_mid k m a b wp in
        let hn : m < n = omega arith in
        let kn : k ≤ n = omega arith in
        let pe : d i k ≡ kind.follow (weight kind t i a m) (weight kind t m b k) = p.is ∙ ap (λ x. weight kind t i x k) s.first.is ∙ weight_join t i k m a b in
        let qe : d k j ≡ kind.follow (weight kind t k e m) (weight kind t m f j) = q.is ∙ ap (λ x. weight kind t k x j) s.second.is ∙ weight_join t k j m e f in
        let h1 = best_below kn i m a hi hn (within_left k m a b wp) in
        let h2 = best_below kn m k b hn h (within_right k m a b wp) in
        let h3 = best_below kn k m e h hn (within_left k m e f wq) in
        let h4 = best_below kn m j f hn hj (within_right k m e f wq) in
        let lower : AsGood kind (kind.follow (kind.follow (d i m) (d m k)) (kind.follow (d k m) (d m j))) (kind.follow (d i k) (d k j)) =
        le_to (le_both _ _ _ _ (le_both _ _ _ _ h1 h2) (le_both _ _ _ _ h3 h4)) (sym (ap (λ x. kind.follow x (d k j)) pe ∙ ap (λ x. kind.follow (kind.follow (weight kind t i a m) (weight kind t m b k)) x) qe)) in
        let group : kind.follow (d i m) (kind.follow (kind.follow (d m k) (d k m)) (d m j)) ≡ kind.follow (kind.follow (d i m) (d m k)) (kind.follow (d k m) (d m j)) =
        ap (kind.follow (d i m)) (laws.assoc (d m k) (d k m) (d m j)) ∙ sym (laws.assoc (d i m) (d m k) (kind.follow (d k m) (d m j))) in
        let turned : AsGood kind (kind.follow (d i m) (d m j)) (kind.follow (d i m) (kind.follow (kind.follow (d m k) (d k m)) (d m j))) =
        laws.keeps_left _ _ (d i m) (le_from (sym (laws.unit_left (d m j))) (laws.keeps_right kind.unit _ (d m j) (turn m hm))) in
        laws.transitive _ _ _ (good.tri i j m hi hj hm) (laws.transitive _ _ _ (le_to turned group) lower)

    -- the round
    module _ (h : k < n) {u : ℕ → ℕ → W} (made : (i j : ℕ) → i < n → j < n → u i j ≡ relaxed kind d k i j) (fair : (i : ℕ) → i < n → AsGood kind kind.unit (u i i)) where
      u_old : (i j : ℕ) → i < n → j < n → AsGood kind (u i j) (d i j)
      u_old i j hi hj = le_from (made i j hi hj) (relaxed_old i j)

      u_via : (i j : ℕ) → i < n → j < n → AsGood kind (u i j) (kind.follow (d i k) (d k j))
      u_via i j hi hj = le_from (made i j hi hj) (relaxed_via i j)

      u_is : (i j : ℕ) → i < n → j < n → (u i j ≡ d i j) ⊎ ((u i j ≡ kind.follow (d i k) (d k j)) × (kind.better (kind.follow (d i k) (d k j)) (d i j) ≡ true))
      u_is i j hi hj =
          ⊎_elim
          (λ e. inr (made i j hi hj ∙ cond-true _ _ _ e, e))
          (λ e. inl (made i j hi hj ∙ cond-false _ _ _ e))
          (cases_Bool (kind.better (kind.follow (d i k) (d k j)) (d i j)))

      tri_new : (i j m : ℕ) → i < n → j < n → m < k + 1 → AsGood kind (u i j) (kind.follow (u i m) (u m j))
      tri_new i j m hi hj hm =
          ⊎_elim
          (λ e. subst (λ x. AsGood kind (u i j) (kind.follow (u i x) (u x j))) (sym e) (le_to (u_via i j hi hj) (sym (ap (λ x. kind.follow x (u k j)) (made i k hi h ∙ col_kept h i hi) ∙ ap (λ x. kind.follow (d i k) x) (made k j h hj ∙ row_kept h j hj)))))
          (λ ne.
          let mk : m < k = omega arith in
          let mn : m < n = omega arith in
          let via = u_via i j hi hj in
          ⊎_elim
          (λ x.
          ⊎_elim
          (λ y. le_to (laws.transitive _ _ _ (u_old i j hi hj) (good.tri i j m hi hj mk)) (sym (ap (λ z. kind.follow z (u m j)) x ∙ ap (kind.follow (d i m)) y)))
          (λ y. le_to (le_to (laws.transitive _ _ _ via (laws.keeps_right _ _ (d k j) (good.tri i k m hi h mk))) (laws.assoc (d i m) (d m k) (d k j))) (sym (ap (λ z. kind.follow z (u m j)) x ∙ ap (kind.follow (d i m)) y.0)))
          (u_is m j mn hj))
          (λ x.
          ⊎_elim
          (λ y. le_to (le_to (laws.transitive _ _ _ via (laws.keeps_left _ _ (d i k) (good.tri k j m h hj mk))) (sym (laws.assoc (d i k) (d k m) (d m j)))) (sym (ap (λ z. kind.follow z (u m j)) x.0 ∙ ap (kind.follow (kind.follow (d i k) (d k m))) y)))
          (λ y.
          let turn : AsGood kind kind.unit (kind.follow (d k m) (d m k)) = laws.transitive _ _ _ (good.diag k h) (good.tri k k m h h mk) in
          let inner : AsGood kind (d k j) (kind.follow (kind.follow (d k m) (d m k)) (d k j)) = le_from (sym (laws.unit_left (d k j))) (laws.keeps_right kind.unit _ (d k j) turn) in
          let group : kind.follow (d i k) (kind.follow (kind.follow (d k m) (d m k)) (d k j)) ≡ kind.follow (kind.follow (d i k) (d k m)) (kind.follow (d m k) (d k j)) =
          ap (kind.follow (d i k)) (laws.assoc (d k m) (d m k) (d k j)) ∙ sym (laws.assoc (d i k) (d k m) (kind.follow (d m k) (d k j))) in
          le_to (le_to (laws.transitive _ _ _ via (laws.keeps_left _ _ (d i k) inner)) group) (sym (ap (λ z. kind.follow z (u m j)) x.0 ∙ ap (kind.follow (kind.follow (d i k) (d k m))) y.0)))
          (u_is m j mn hj))
          (u_is i m hi mn))
          (cases_eq m k)

      path_new : (i j : ℕ) → i < n → j < n → Path kind t (k + 1) i j (u i j)
      path_new i j hi hj =
          ⊎_elim
          (λ e. let p = good.path i j hi hj in record { by = p.by; within = within_more k (k + 1) p.by (omega arith) p.within; once = p.once; is = e ∙ p.is })
          (λ e.
          let p = good.path i k hi h in
          let q = good.path k j h hj in
          ⊎_elim
          (λ a. record {
            by = p.by ++ k ∷ q.by;
            within = within_join k (k + 1) p.by q.by (omega arith) (within_more k (k + 1) p.by (omega arith) p.within) (within_more k (k + 1) q.by (omega arith) q.within);
            once = distinct_join k p.by q.by p.within q.within p.once q.once a;
            is = e.0 ∙ ap (λ x. kind.follow x (d k j)) p.is ∙ ap (kind.follow (weight kind t i p.by k)) q.is ∙ sym (weight_join t i j k p.by q.by);
          })
          (λ s. absurd (both_ways _ (meets h (λ m mk. let mn : m < n = omega arith in laws.transitive _ _ _ (fair m mn) (u_via m m mn mn)) i j hi hj p q s) e.1))
          (shared p.by q.by))
          (u_is i j hi hj)

      pub next : Good kind n (k + 1) t u
      next = record {
        below = λ i j hi hj. laws.transitive _ _ _ (u_old i j hi hj) (good.below i j hi hj);
        tri = tri_new;
        diag = fair;
        path = path_new;
      }

  -- before the first round
  pub first : (n : ℕ) (t : ℕ → ℕ → W) → ((i : ℕ) → i < n → AsGood kind kind.unit (t i i)) → Good kind n 0 t t
  first n t fair = record {
    below = λ i j hi hj. laws.reflexive _;
    tri = λ i j m hi hj hm. absurd (omega arith);
    diag = fair;
    path = λ i j hi hj. record { by = []; within = tt; once = tt; is = refl };
  }

  -- a weight that is better than another is not none
  pub better_some : (a b : W) → kind.better a b ≡ true → a ≡ kind.none → ⊥
  better_some a b e is = both_ways _ (laws.worst b) (subst (λ x. kind.better x b ≡ true) is e)

  -- a weight is none, or better than none
  pub cases_none : (a : W) → (a ≡ kind.none) ⊎ (kind.better a kind.none ≡ true)
  cases_none a = ⊎_elim (λ b. inr b) (λ b. inl (laws.antisymmetric _ _ (laws.worst a) b)) (cases_Bool (kind.better a kind.none))

  -- places whose links have a weight other than none make a walk
  pub links : (n : ℕ) (t : ℕ → ℕ → W) (i j : ℕ) (ps : List ℕ) → Within n ps → (weight kind t i ps j ≡ kind.none → ⊥) → Walk kind n t i ps j
  links n t i j [] w h = h
  links n t i j (p ∷ ps) w h = (
    w.0,
    λ e. h (ap (λ x. kind.follow x (weight kind t p ps j)) e ∙ laws.none_left _),
    links n t p j ps w.1 (λ e. h (ap (kind.follow (t i p)) e ∙ laws.none_right _)),
  )

  pub walk_within : (n : ℕ) (t : ℕ → ℕ → W) (i j : ℕ) (ps : List ℕ) → Walk kind n t i ps j → Within n ps
  walk_within n t i j [] w = tt
  walk_within n t i j (p ∷ ps) w = (w.0, walk_within n t p j ps w.2)

  -- how far an entry reaches before the round k
  pub good_reach : (n k : ℕ) (t d : ℕ → ℕ → W) → Good kind n k t d → k ≤ n → Given kind n t → Near kind n d
  good_reach n k t d good kn r i j hi hj =
      let p = good.path i j hi hj in
      let few = pigeons k p.by p.within p.once in
      subst (λ x. kind.reach (n + 1) x) (sym p.is) (laws.reach_more (1 + length p.by) (n + 1) _ (omega arith) (weight_reach n t r i j p.by hi hj (within_more k n p.by kn p.within)))

  -- after the last
  pub last : (n : ℕ) (t u : ℕ → ℕ → W) → Good kind n n t u → Closure kind n t u
  last n t u good =
      let some : (i j : ℕ) → i < n → j < n → (u i j ≡ kind.none → ⊥) → Attained kind n t i j (u i j) = λ i j hi hj ne.
      let p = good.path i j hi hj in
      record { by = p.by; walk = links n t i j p.by p.within (λ e. ne (p.is ∙ e)); is = p.is } in
      let bound : (i j : ℕ) (by : List ℕ) → i < n → j < n → Walk kind n t i by j → AsGood kind (u i j) (weight kind t i by j) = λ i j by hi hj w. best_below good (omega arith) i j by hi hj (walk_within n t i j by w) in
      record {
        sound = λ p bad. both_ways _ (laws.transitive _ _ _ (good.diag p bad.place) (bound p p bad.by bad.place bad.place bad.walk)) bad.better;
        best = λ i j hi hj. record {
          bound = λ by w. bound i j by hi hj w;
          attained = some i j hi hj;
          absent = λ no_Walk.
              ⊎_elim
              (λ e. e)
              (λ b. let a = some i j hi hj (better_some _ _ b) in absurd (no_Walk a.by a.walk))
              (cases_none (u i j));
        };
      }

  -- places by which a walk would be better than the unit
  pub bad_by : (n : ℕ) (t : ℕ → ℕ → W) (i : ℕ) (ps : List ℕ) → i < n → Within n ps → kind.better (weight kind t i ps i) kind.unit ≡ true → Bad kind n t i
  bad_by n t i ps hi w b = record { place = hi; by = ps; walk = links n t i i ps w (better_some _ _ b); better = b }

  -- a diagonal entry better than the unit, met in the round k
  pub bad_via : (n k : ℕ) (t d : ℕ → ℕ → W) → Good kind n k t d → k < n → (i : ℕ) → i < n → kind.better (kind.follow (d i k) (d k i)) kind.unit ≡ true → Bad kind n t i
  bad_via n k t d good h i hi b =
      let p = good.path i k hi h in
      let q = good.path k i h hi in
      let e : kind.follow (d i k) (d k i) ≡ weight kind t i (p.by ++ k ∷ q.by) i = ap (λ x. kind.follow x (d k i)) p.is ∙ ap (kind.follow (weight kind t i p.by k)) q.is ∙ sym (weight_join t i i k p.by q.by) in
      bad_by n t i (p.by ++ k ∷ q.by) hi
      (within_join k n p.by q.by h (within_more k n p.by (omega arith) p.within) (within_more k n q.by (omega arith) q.within))
      (subst (λ x. kind.better x kind.unit ≡ true) e b)

  -- all rounds leave the closure
  pub ended : (n k : ℕ) (t u : ℕ → ℕ → W) → Good kind n k t u → k ≤ n → Ended kind n k t u
  ended n k t u good upto = record { closed = λ given all. (last n t u (subst (λ x. Good kind n x t u) (omega arith) good), good_reach n k t u good upto given) }
