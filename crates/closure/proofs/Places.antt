-- Lists of places without repetition.
use Rattle.std.proofs.Common.{◌≡◌, ℕ, zero, suc, ◌+◌, ◌<◌, ◌≤◌, ◌⊎◌, List, [], ◌∷◌, ◌++◌, length, sym, refl, ap, inl, inr, ⊎_elim, arith}
use Rattle.std.proofs.lemmas.Bool.{cases_eq}

-- each place is below n
abbrev pub Within : ℕ → List ℕ → Type 0
Within n [] = Unit {0}
Within n (p ∷ ps) = (p < n) × Within n ps

-- m is not among the places
abbrev pub Fresh : ℕ → List ℕ → Type 0
Fresh m [] = Unit {0}
Fresh m (p ∷ ps) = (m ≡ p → ⊥) × Fresh m ps

-- no place comes twice
abbrev pub Distinct : List ℕ → Type 0
Distinct [] = Unit {0}
Distinct (p ∷ ps) = Fresh p ps × Distinct ps

-- no place is in both lists
abbrev pub Apart : List ℕ → List ℕ → Type 0
Apart [] qs = Unit {0}
Apart (p ∷ ps) qs = Fresh p qs × Apart ps qs

pub within_more : (k n : ℕ) (ps : List ℕ) → k ≤ n → Within k ps → Within n ps
within_more k n [] h w = tt
within_more k n (p ∷ ps) h w = let a = w.0 in (omega arith, within_more k n ps h w.1)

pub within_join : (k n : ℕ) (ps qs : List ℕ) → k < n → Within n ps → Within n qs → Within n (ps ++ k ∷ qs)
within_join k n [] qs h w v = (h, v)
within_join k n (p ∷ ps) qs h w v = (w.0, within_join k n ps qs h w.1 v)

pub within_left : (k m : ℕ) (ps qs : List ℕ) → Within k (ps ++ m ∷ qs) → Within k ps
within_left k m [] qs w = tt
within_left k m (p ∷ ps) qs w = (w.0, within_left k m ps qs w.1)

pub within_mid : (k m : ℕ) (ps qs : List ℕ) → Within k (ps ++ m ∷ qs) → m < k
within_mid k m [] qs w = w.0
within_mid k m (p ∷ ps) qs w = within_mid k m ps qs w.1

pub within_right : (k m : ℕ) (ps qs : List ℕ) → Within k (ps ++ m ∷ qs) → Within k qs
within_right k m [] qs w = w.1
within_right k m (p ∷ ps) qs w = within_right k m ps qs w.1

-- a place beyond is fresh
pub fresh_beyond : (k : ℕ) (ps : List ℕ) → Within k ps → Fresh k ps
fresh_beyond k [] w = tt
fresh_beyond k (p ∷ ps) w = let a = w.0 in (λ e. omega arith, fresh_beyond k ps w.1)

fresh_join : (m k : ℕ) (ps qs : List ℕ) → (m ≡ k → ⊥) → Fresh m ps → Fresh m qs → Fresh m (ps ++ k ∷ qs)
fresh_join m k [] qs ne f h = (ne, h)
fresh_join m k (p ∷ ps) qs ne f h = (f.0, fresh_join m k ps qs ne f.1 h)

pub distinct_join : (k : ℕ) (ps qs : List ℕ) → Within k ps → Within k qs → Distinct ps → Distinct qs → Apart ps qs → Distinct (ps ++ k ∷ qs)
distinct_join k [] qs w v d e a = (fresh_beyond k qs v, e)
distinct_join k (p ∷ ps) qs w v d e a =
    let b = w.0 in
    (fresh_join p k ps qs (λ x. omega arith) d.0 a.0, distinct_join k ps qs w.1 v d.1 e a.1)

-- m stands in qs
pub record Has (m : ℕ) (qs : List ℕ) : Type 0 where
  pub front : List ℕ
  pub back : List ℕ
  pub is : qs ≡ front ++ m ∷ back

pub find : (m : ℕ) (qs : List ℕ) → Fresh m qs ⊎ Has m qs
find m [] = inl tt
find m (q ∷ qs) =
    ⊎_elim
    (λ e. inr (record { front = []; back = qs; is = ap (λ x. x ∷ qs) (sym e) }))
    (λ ne. ⊎_elim (λ f. inl (ne, f)) (λ h. inr (record { front = q ∷ h.front; back = h.back; is = ap (λ x. q ∷ x) h.is })) (find m qs))
    (cases_eq m q)

pub record Shared (ps qs : List ℕ) : Type 0 where
  pub m : ℕ
  pub first : Has m ps
  pub second : Has m qs

pub shared : (ps qs : List ℕ) → Apart ps qs ⊎ Shared ps qs
shared [] qs = inl tt
shared (p ∷ ps) qs =
    ⊎_elim
    (λ f. ⊎_elim (λ a. inl (f, a)) (λ s. inr (record { m = s.m; first = record { front = p ∷ s.first.front; back = s.first.back; is = ap (λ x. p ∷ x) s.first.is }; second = s.second })) (shared ps qs))
    (λ h. inr (record { m = p; first = record { front = []; back = ps; is = refl }; second = h }))
    (find p qs)

-- fewer places: the one list less the place k
record Less (k : ℕ) (ps : List ℕ) : Type 0 where
  rest : List ℕ
  within : Within k rest
  once : Distinct rest
  long : length ps ≤ length rest + 1
  fresh : (m : ℕ) → Fresh m ps → Fresh m rest

within_fresh : (k : ℕ) (ps : List ℕ) → Within (suc k) ps → Fresh k ps → Within k ps
within_fresh k [] w f = tt
within_fresh k (p ∷ ps) w f =
    let a = w.0 in
    let ne = f.0 in
    let b : p < k = ⊎_elim (λ e. absurd (ne e)) (λ x. omega arith) (cases_eq k p) in
    (b, within_fresh k ps w.1 f.1)

less : (k : ℕ) (ps : List ℕ) → Within (suc k) ps → Distinct ps → Less k ps
less k [] w d = record { rest = []; within = tt; once = tt; long = omega arith; fresh = λ m f. f }
less k (p ∷ ps) w d =
    ⊎_elim
    (λ e. record { rest = ps; within = within_fresh k ps w.1 (rw e d.0); once = d.1; long = omega arith; fresh = λ m f. f.1 })
    (λ ne. let a = w.0 in let r = less k ps w.1 d.1 in record { rest = p ∷ r.rest; within = (omega arith, r.within); once = (r.fresh p d.0, r.once); long = omega arith; fresh = λ m f. (f.0, r.fresh m f.1) })
    (cases_eq k p)

pub pigeons : (k : ℕ) (ps : List ℕ) → Within k ps → Distinct ps → length ps ≤ k
pigeons zero [] w d = omega arith
pigeons zero (p ∷ ps) w d = let a = w.0 in absurd (omega arith)
pigeons (suc k) ps w d = let r = less k ps w d in let h = pigeons k r.rest r.within r.once in omega (arith, r.long)
