-- What a client draws from a closed table.
use Rattle.std.proofs.Common.{◌≡◌, ℕ, ◌+◌, ◌*◌, ◌<◌, true, List, [], ◌∷◌, ◌++◌, length, get_or, sym, ap, ◌∙◌, subst, ⊎_elim, arith}
use Rattle.std.proofs.lemmas.List.{get_or-map}
use Rattle.std.proofs.lemmas.Bool.{cases_Bool}
use Rattle.closure.specs.Kinds.{Kind, Laws, AsGood, Meaning}
use Rattle.closure.specs.Walks.{weight, Closure}
use Rattle.closure.specs.Closings.{entry}
use Rattle.closure.proofs.Places.{Within, within_join}
use Rattle.closure.proofs.Rounds.{weight_join, links, better_some, cases_none, walk_within, bad_by}
use Rattle.closure.proofs.Entries.{place_below}

-- the entry of a list that holds a table is what the value at its place means
pub entry_is : {W : Type 0} (meaning : Meaning W) (n i j : ℕ) (l : List W) (default : W) → length l ≡ n * n → i < n → j < n → entry meaning n l i j ≡ meaning.value (get_or l (i * n + j) default)
entry_is meaning n i j l default len hi hj = get_or-map meaning.value l (i * n + j) default meaning.kind.none (omega (arith, place_below n i j hi hj))

-- places by which the weight is w; links that are not there count as none
pub record Met {W : Type 0} (kind : Kind W) (n : ℕ) (t : ℕ → ℕ → W) (i j : ℕ) (w : W) : Type 0 where
  pub by : List ℕ
  pub within : Within n by
  pub is : w ≡ weight kind t i by j

module _ {W : Type 0} {kind : Kind W} (laws : Laws kind) {n : ℕ} {t u : ℕ → ℕ → W} (closed : Closure kind n t u) where
  -- an entry is as good as the weight by any places, links that are not there among them
  pub closed_best : (i j : ℕ) (by : List ℕ) → i < n → j < n → Within n by → AsGood kind (u i j) (weight kind t i by j)
  closed_best i j by hi hj w =
      ⊎_elim
      (λ e. subst (λ x. AsGood kind (u i j) x) (sym e) (laws.worst (u i j)))
      (λ b. (closed.best i j hi hj).bound by (links laws n t i j by w (better_some laws _ _ b)))
      (cases_none laws (weight kind t i by j))

  -- an entry is as good as the one given
  pub closed_given : (i j : ℕ) → i < n → j < n → AsGood kind (u i j) (t i j)
  closed_given i j hi hj = closed_best i j [] hi hj tt

  -- an entry is attained
  pub closed_met : (i j : ℕ) → i < n → j < n → Met kind n t i j (u i j)
  closed_met i j hi hj =
      ⊎_elim
      (λ e. record { by = []; within = tt; is = e ∙ sym (laws.antisymmetric _ _ (laws.worst (t i j)) (subst (λ x. AsGood kind x (t i j)) e (closed_given i j hi hj))) })
      (λ b. let a = (closed.best i j hi hj).attained (better_some laws _ _ b) in record { by = a.by; within = walk_within laws n t i j a.by a.walk; is = a.is })
      (cases_none laws (u i j))

  -- no entry on the diagonal is better than the unit
  pub closed_diagonal : (i : ℕ) → i < n → AsGood kind kind.unit (u i i)
  closed_diagonal i hi =
      let m = closed_met i i hi hi in
      ⊎_elim (λ b. absurd (closed.sound i (bad_by laws n t i m.by hi m.within (subst (λ x. kind.better x kind.unit ≡ true) m.is b)))) (λ h. h) (cases_Bool (kind.better (u i i) kind.unit))

  -- the triangle: an entry is as good as two entries in turn
  pub closed_triangle : (i m j : ℕ) → i < n → m < n → j < n → AsGood kind (u i j) (kind.follow (u i m) (u m j))
  closed_triangle i m j hi hm hj =
      let p = closed_met i m hi hm in
      let q = closed_met m j hm hj in
      let e : weight kind t i (p.by ++ m ∷ q.by) j ≡ kind.follow (u i m) (u m j) = weight_join laws t i j m p.by q.by ∙ ap (λ x. kind.follow x (weight kind t m q.by j)) (sym p.is) ∙ ap (kind.follow (u i m)) (sym q.is) in
      subst (λ x. AsGood kind (u i j) x) e (closed_best i j (p.by ++ m ∷ q.by) hi hj (within_join m n p.by q.by hm p.within q.within))

  -- an entry is as good as an entry and then a link given
  pub closed_link : (i m j : ℕ) → i < n → m < n → j < n → AsGood kind (u i j) (kind.follow (u i m) (t m j))
  closed_link i m j hi hm hj = laws.transitive _ _ _ (closed_triangle i m j hi hm hj) (laws.keeps_left _ _ (u i m) (closed_given m j hm hj))

  -- there and back is not better than the unit
  pub closed_return : (i j : ℕ) → i < n → j < n → AsGood kind kind.unit (kind.follow (u i j) (u j i))
  closed_return i j hi hj = laws.transitive _ _ _ (closed_diagonal i hi) (closed_triangle i j i hi hj hi)

-- a table has one closure
pub closed_same : {W : Type 0} {kind : Kind W} (laws : Laws kind) {n : ℕ} {t u v : ℕ → ℕ → W} → Closure kind n t u → Closure kind n t v → (i j : ℕ) → i < n → j < n → u i j ≡ v i j
closed_same {kind = kind} laws {u = u} {v = v} one other i j hi hj =
    let p = closed_met laws one i j hi hj in
    let q = closed_met laws other i j hi hj in
    laws.antisymmetric _ _
    (subst (λ x. AsGood kind (u i j) x) (sym q.is) (closed_best laws one i j q.by hi hj q.within))
    (subst (λ x. AsGood kind (v i j) x) (sym p.is) (closed_best laws other i j p.by hi hj p.within))
