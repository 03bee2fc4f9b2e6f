-- Statements about the numbers below a number.
use Rattle.std.proofs.Common.{ℕ, zero, suc, ◌+◌, ◌<◌, ◌≤◌, max, ◌⊎◌, sym, subst, inl, inr, ⊎_elim, le_of_suc-le-suc, eq-or-lt_of_le, arith}
use native.Mathlib.Decide.{dec_lt}

pub below_suc : (A : ℕ → Type 0) (m : ℕ) → ((q : ℕ) → q < m → A q) → A m → (q : ℕ) → q < suc m → A q
below_suc A m all here q l = ⊎_elim (λ e. subst A (sym e) here) (λ lt. all q lt) (eq-or-lt_of_le (le_of_suc-le-suc l))

-- the largest of f 0 … f (n - 1), and 0
abbrev pub top : ℕ → (ℕ → ℕ) → ℕ
top zero f = 0
top (suc n) f = max (f n) (top n f)

pub top_above : (n : ℕ) (f : ℕ → ℕ) (k : ℕ) → k < n → f k ≤ top n f
top_above zero f k l = absurd (omega arith)
top_above (suc n) f k l = below_suc (λ j. f j ≤ max (f n) (top n f)) n (λ j m. omega (arith, top_above n f j m)) (omega arith) k l

pub top_least : (n : ℕ) (f : ℕ → ℕ) (b c : ℕ) → b ≤ c → ((k : ℕ) → k < n → f k + b ≤ c) → top n f + b ≤ c
top_least zero f b c l h = omega arith
top_least (suc n) f b c l h = omega (arith, h n (omega arith), top_least n f b c l (λ k m. h k (omega arith)))

-- a function that picks a witness for each number below n
pub choose : (n : ℕ) (A : ℕ → ℕ → Type 0) → ((p : ℕ) → p < n → (e : ℕ) × A p e) → (f : ℕ → ℕ) × ((p : ℕ) → p < n → A p (f p))
choose n A h = (λ p. pick p (dec_lt p n), λ p q. picked p (dec_lt p n) q)
  where
    pick : (p : ℕ) → Dec (p < n) → ℕ
    pick p (yes q) = (h p q).0
    pick p (no q) = 0

    picked : (p : ℕ) (c : Dec (p < n)) → p < n → A p (pick p c)
    picked p (yes q) r = (h p q).1
    picked p (no q) r = absurd (q r)

-- for each number below n, or not for one of them
pub all_or_not : (n : ℕ) (A : ℕ → Type 0) → ((k : ℕ) → Dec (A k)) → ((k : ℕ) → k < n → A k) ⊎ ((k : ℕ) × (k < n) × ¬ (A k))
all_or_not zero A dec = inl (λ k l. absurd (omega arith))
all_or_not (suc n) A dec = ⊎_elim
    (λ all. elim (dec n) [ yes h ↦ inl (below_suc A n all h) | no h ↦ inr (n, omega arith, h) ])
    (λ r. inr (r.0, omega (arith, r.1), r.2))
    (all_or_not n A dec)

pub dec_all : (n : ℕ) (A : ℕ → Type 0) → ((k : ℕ) → Dec (A k)) → Dec ((k : ℕ) → k < n → A k)
dec_all n A dec = ⊎_elim (λ all. yes all) (λ r. no (λ all. r.2 (all r.0 r.1))) (all_or_not n A dec)

pub dec_implies : (A B : Type 0) → Dec A → Dec B → Dec (A → B)
dec_implies A B (yes a) (yes b) = yes (λ x. b)
dec_implies A B (yes a) (no b) = no (λ f. b (f a))
dec_implies A B (no a) b = yes (λ x. absurd (a x))

pub dec_both : (A B : Type 0) → Dec A → Dec B → Dec (A × B)
dec_both A B (yes a) (yes b) = yes (a, b)
dec_both A B (yes a) (no b) = no (λ x. b x.1)
dec_both A B (no a) b = no (λ x. a x.0)

pub dec_either : (A B : Type 0) → Dec A → Dec B → Dec (A ⊎ B)
dec_either A B (yes a) b = yes (inl a)
dec_either A B (no a) (yes b) = yes (inr b)
dec_either A B (no a) (no b) = no (λ x. ⊎_elim a b x)

-- a statement that follows from a decided one, and from which that follows
pub dec_like : (A B : Type 0) → (A → B) → (B → A) → Dec A → Dec B
dec_like A B f g (yes a) = yes (f a)
dec_like A B f g (no a) = no (λ b. a (g b))

-- the first number below n that passes, or none
pub dec_some : (n : ℕ) (A : ℕ → Type 0) → ((k : ℕ) → Dec (A k)) → Dec ((k : ℕ) × (k < n) × A k)
dec_some zero A dec = no (λ r. absurd (omega (arith, r.1)))
dec_some (suc n) A dec = go (dec_some n A dec) (dec n)
  where
    go : Dec ((k : ℕ) × (k < n) × A k) → Dec (A n) → Dec ((k : ℕ) × (k < suc n) × A k)
    go (yes r) h = yes (r.0, omega (arith, r.1), r.2)
    go (no r) (yes h) = yes (n, omega arith, h)
    go (no r) (no h) = no (λ s. below_suc (λ k. ¬ (A k)) n (λ k l a. r (k, l, a)) h s.0 s.1 s.2)
