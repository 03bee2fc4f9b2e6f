-- One step of a round, on the table as a list.
use Rattle.std.proofs.Common.{◌≡◌, ℕ, ◌+◌, ◌-◌, ◌*◌, ◌<◌, ◌≤◌, true, ltb, ◌≢◌, List, length, set, sym, refl, ap, ◌∙◌, subst, ⊎_elim, mul-le-mul_right, arith}
use Rattle.std.proofs.lemmas.Bool.{cases_eq, cases_lt, cond_both, both_ways, ltb-true, ltb-false}
use Rattle.std.proofs.lemmas.Bool.Decides.{nat_tests}
use Rattle.closure.specs.Kinds.{Kind, Laws, AsGood, Meaning, most_places, most_links}
use Rattle.closure.specs.Walks.{Bad}
use Rattle.closure.specs.Closings.{weight_at, entry, GivenBefore}
use Rattle.closure.specs.Rounds.{Given, rows_after}
use Rattle.closure.proofs.Entries.{place_below, row_end, same_row, same_column, write_same, write_other}
use Rattle.closure.proofs.Rounds.{Good, relaxed, col_kept, row_kept, next, bad_via, good_reach}

-- the table u in the round k: the entries before the place q are relaxed, the others are those of d;
-- the rows are taken in turn from the row k on, which stays as it is
pub record Mid {W : Type 0} (kind : Kind W) (n k q : ℕ) (d u : ℕ → ℕ → W) : Type 0 where
  pub done : (a b : ℕ) → a < n → b < n → rows_after n k a * n + b < q → u a b ≡ relaxed kind d k a b
  pub rest : (a b : ℕ) → a < n → b < n → q ≤ rows_after n k a * n + b → u a b ≡ d a b

-- the rows that were taken leave no diagonal entry better than the unit
abbrev pub FairBefore : {W : Type 0} → Kind W → (n k s : ℕ) → (ℕ → ℕ → W) → Type 0
FairBefore kind n k s d = (a : ℕ) → a < n → rows_after n k a < s → AsGood kind kind.unit (relaxed kind d k a a)

pub after_below : (n k a : ℕ) → k < n → a < n → rows_after n k a < n
after_below n k a hk ha = cond_both (ltb a k) (a + n - k) (a - k) (λ x. x < n) (λ e. omega (arith, ltb-true a k e)) (λ e. omega (arith, ltb-false a k e))

pub after_same : (n k a b : ℕ) → k < n → a < n → b < n → rows_after n k a ≡ rows_after n k b → a ≡ b
after_same n k a b hk ha hb e = grind (arith, nat_tests)

after_none : (n k a : ℕ) → k < n → a < n → rows_after n k a < 1 → a ≡ k
after_none n k a hk ha h = grind (arith, nat_tests)

-- where an entry comes in the round
taken : (n k s i j a b : ℕ) → j < n → b < n → rows_after n k i ≡ s → a * n + b ≡ i * n + j → rows_after n k a * n + b ≡ s * n + j
taken n k s i j a b hj hb turn same =
    let row = same_row n a b i j hb hj same in
    let column = same_column n a b i j hb hj same in
    ap (λ x. rows_after n k x * n + b) row ∙ ap (λ x. x * n + b) turn ∙ ap (λ x. s * n + x) column

passed : (n k s i j a b : ℕ) → k < n → i < n → j < n → a < n → b < n → rows_after n k i ≡ s → (a * n + b ≡ i * n + j → ⊥) → rows_after n k a * n + b < s * n + (j + 1) → rows_after n k a * n + b < s * n + j
passed n k s i j a b hk hi hj ha hb turn ne h =
    ⊎_elim
    (λ e.
    let row = after_same n k a i hk ha hi (same_row n (rows_after n k a) b s j hb hj e ∙ sym turn) in
    let column = same_column n (rows_after n k a) b s j hb hj e in
    absurd (ne (ap (λ x. x * n + b) row ∙ ap (λ x. i * n + x) column)))
    (λ other. omega arith)
    (cases_eq (rows_after n k a * n + b) (s * n + j))

first_row : (r n b : ℕ) → r * n + b < 1 * n → r < 1
first_row r n b h = ⊎_elim (λ x. x) (λ x. absurd (omega (arith, mul-le-mul_right n x))) (cases_lt r 1)

-- a row is done when the next is taken
pub row_done : (n k s i j : ℕ) → j < n → rows_after n k i ≡ s → rows_after n k i * n + j < (s + 1) * n
row_done n k s i j hj turn = omega (arith, ap (λ x. x * n) turn, row_end n s n refl)

-- the same place, written otherwise
pub mid_to : {W : Type 0} {kind : Kind W} {n k q : ℕ} {d u : ℕ → ℕ → W} (r : ℕ) → q ≡ r → Mid kind n k q d u → Mid kind n k r d u
mid_to {kind = kind} {n = n} {k = k} {d = d} {u = u} r e m = subst (λ x. Mid kind n k x d u) e m

module _ {W : Type 0} {kind : Kind W} (laws : Laws kind) where
  module _ {n k q : ℕ} {t d u : ℕ → ℕ → W} (good : Good kind n k t d) (h : k < n) (mid : Mid kind n k q d u) where
    -- the round leaves the column k and the row k as they are
    pub mid_col : (a : ℕ) → a < n → u a k ≡ d a k
    mid_col a ha = ⊎_elim (λ x. mid.done a k ha h x ∙ col_kept laws good h a ha) (λ x. mid.rest a k ha h x) (cases_lt (rows_after n k a * n + k) q)

    pub mid_row : (b : ℕ) → b < n → u k b ≡ d k b
    mid_row b hb = ⊎_elim (λ x. mid.done k b h hb x ∙ row_kept laws good h b hb) (λ x. mid.rest k b h hb x) (cases_lt (rows_after n k k * n + b) q)

  -- before the first row is taken
  pub mid_first : (n k : ℕ) (t d : ℕ → ℕ → W) → Good kind n k t d → k < n → Mid kind n k (1 * n) d d
  mid_first n k t d good h = record {
    done = λ a b ha hb x.
        let e : a ≡ k = after_none n k a h ha (first_row (rows_after n k a) n b x) in
        subst (λ r. d r b ≡ relaxed kind d k r b) (sym e) (sym (row_kept laws good h b hb));
    rest = λ a b ha hb x. refl;
  }

  pub fair_first : (n k : ℕ) (t d : ℕ → ℕ → W) → Good kind n k t d → k < n → FairBefore kind n k 1 d
  fair_first n k t d good h a ha x =
      let e : a ≡ k = after_none n k a h ha x in
      subst (λ r. AsGood kind kind.unit (relaxed kind d k r r)) (sym e) (subst (λ w. AsGood kind kind.unit w) (sym (row_kept laws good h k h)) (good.diag k h))

  -- the end of a round
  pub round : (n k s : ℕ) (t d u : ℕ → ℕ → W) → Good kind n k t d → k < n → s ≡ n → Mid kind n k (s * n) d u → FairBefore kind n k s d → Good kind n (k + 1) t u
  round n k s t d u good h all mid fair =
      let whole = mid_to (n * n) (ap (λ x. x * n) all) mid in
      let made : (i j : ℕ) → i < n → j < n → u i j ≡ relaxed kind d k i j = λ i j hi hj. whole.done i j hi hj (place_below n (rows_after n k i) j (after_below n k i h hi) hj) in
      next laws good h made (λ a ha. let below = after_below n k a h ha in subst (λ x. AsGood kind kind.unit x) (sym (made a a ha ha)) (fair a ha (omega arith)))

  -- one row more
  pub fair_more : (n k s i : ℕ) (d : ℕ → ℕ → W) → k < n → i < n → rows_after n k i ≡ s → FairBefore kind n k s d → AsGood kind kind.unit (relaxed kind d k i i) → FairBefore kind n k (s + 1) d
  fair_more n k s i d hk hi e fair here a ha x =
      ⊎_elim
      (λ same. subst (λ r. AsGood kind kind.unit (relaxed kind d k r r)) (sym (after_same n k a i hk ha hi (same ∙ sym e))) here)
      (λ ne. fair a ha (omega arith))
      (cases_eq (rows_after n k a) s)

  -- a relaxed entry on the diagonal that is better than the unit
  pub bad_relaxed : (n k : ℕ) (t d : ℕ → ℕ → W) → Good kind n k t d → k < n → (i : ℕ) → i < n → kind.better (relaxed kind d k i i) kind.unit ≡ true → Bad kind n t i
  bad_relaxed n k t d good h i hi b =
      cond_both (kind.better (kind.follow (d i k) (d k i)) (d i i)) (kind.follow (d i k) (d k i)) (d i i)
      (λ x. kind.better x kind.unit ≡ true → Bad kind n t i)
      (λ e x. bad_via laws n k t d good h i hi x)
      (λ e x. absurd (both_ways _ (good.diag i hi) x))
      b

  -- a row that is relaxed, with such an entry
  pub row_bad : (n k s i j : ℕ) (t d u : ℕ → ℕ → W) → Good kind n k t d → k < n → i < n → rows_after n k i ≡ s → j ≡ n → Mid kind n k (s * n + j) d u → kind.better (u i i) kind.unit ≡ true → Bad kind n t i
  row_bad n k s i j t d u good h hi turn all mid b =
      let made = (mid_to ((s + 1) * n) (row_end n s j all) mid).done i i hi hi (row_done n k s i i hi turn) in
      bad_relaxed n k t d good h i hi (subst (λ x. kind.better x kind.unit ≡ true) made b)

  -- every entry, in each round, is within reach of the longest walk by distinct places
  pub near_all : (n k : ℕ) (t d : ℕ → ℕ → W) → n ≤ most_places → Good kind n k t d → k < n → Given kind n t → (i j : ℕ) → i < n → j < n → kind.reach most_links (d i j)
  near_all n k t d small good h given i j hi hj = laws.reach_more (n + 1) most_links _ (omega arith) (good_reach laws n k t d good (omega arith) given i j hi hj)

module _ {W : Type 0} (meaning : Meaning W) {n k : ℕ} (s i j : ℕ) (l : List W) {d : ℕ → ℕ → meaning.Value} (hk : k < n) (hi : i < n) (hj : j < n) (turn : rows_after n k i ≡ s) (mid : Mid meaning.kind n k (s * n + j) d (entry meaning n l)) where
  -- the relaxed entry, written to its place
  pub step : (p : ℕ) (x : W) → p ≡ i * n + j → p < length l → meaning.value x ≡ relaxed meaning.kind d k i j → Mid meaning.kind n k (s * n + (j + 1)) d (entry meaning n (set l p x))
  step p x e lt is = record {
    done = λ a b ha hb q.
        ⊎_elim
        (λ same. rw (same_row n a b i j hb hj (same ∙ e), same_column n a b i j hb hj (same ∙ e)) (ap (weight_at meaning (set l p x)) (sym e) ∙ write_same meaning l p x lt ∙ is))
        (λ ne. write_other meaning l p (a * n + b) x ne ∙ mid.done a b ha hb (passed n k s i j a b hk hi hj ha hb turn (λ same. ne (same ∙ sym e)) q))
        (cases_eq (a * n + b) p);
    rest = λ a b ha hb q. let ne : a * n + b ≢ p = λ same. omega (arith, taken n k s i j a b hj hb turn (same ∙ e)) in write_other meaning l p (a * n + b) x ne ∙ mid.rest a b ha hb (omega arith);
  }

-- the entries of a list whose weights may be given
pub given_entries : {W : Type 0} (meaning : Meaning W) (n : ℕ) (l : List W) → length l ≡ n * n → GivenBefore meaning l (length l) → Given meaning.kind n (entry meaning n l)
given_entries meaning n l len given = record { each = λ i j hi hj. given (i * n + j) (omega (arith, place_below n i j hi hj)) }
