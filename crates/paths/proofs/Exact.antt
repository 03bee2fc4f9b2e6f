-- Dates that keep the largest differences of a level set are, moved by a constant, those of one of its members.
use Rattle.std.proofs.Common.{◌≡◌, ℕ, zero, suc, ◌+◌, ◌-◌, ◌<◌, ◌≤◌, min, max, ℤ, ◌≤ℤ◌, subst, arith}
use Rattle.std.proofs.lemmas.Int.{ints}
use Rattle.paths.specs.Profiles.{difference}
use Rattle.paths.proofs.Levels.{Level}
use Rattle.paths.proofs.Finite.{below_suc}

-- s minus t is the largest difference v: moved until s stands at y + c, t is no later than m + c
shifted : (s t y c m : ℕ) (v : ℤ) → difference s t ≡ v → difference y m ≤ℤ v → s ≤ c → t + (y + c - s) ≤ m + c
shifted s t y c m v h k l = omega (arith, ints)

module _ {X : Type 0} (K : (X → ℕ) → Type 0) (level : Level X K) (s : ℕ → X) (n : ℕ) (P : ℕ → ℕ → ℤ) (reached : (p q : ℕ) → p < n → q < n → (x : X → ℕ) × K x × (difference (x (s p)) (x (s q)) ≡ P p q)) (y : ℕ → ℕ) (fits : (p q : ℕ) → p < n → q < n → difference (y p) (y q) ≤ℤ P p q) where
  -- for every large enough c, a member with p at y p + c, and each q below m no later than y q + c: the earliest of members that reach P p q
  Row : ℕ → ℕ → Type 0
  Row p m = (c₀ : ℕ) × ((c : ℕ) → c₀ ≤ c → (x : X → ℕ) × K x × (x (s p) ≡ y p + c) × ((q : ℕ) → q < m → x (s q) ≤ y q + c))

  row : (p : ℕ) → p < n → (m : ℕ) → m ≤ n → Row p m
  unfolding Row
  row p hp zero hm =
      let r = reached p p hp hp in
      let x : X → ℕ = r.0 in
      (x (s p), λ c l. (λ i. x i + (y p + c - x (s p)), level.moved x (y p + c - x (s p)) r.1, omega arith, λ q k. absurd (omega arith)))
  row p hp (suc m) hm =
      let before : Row p m = row p hp m (omega arith) in
      let r = reached p m hp (omega arith) in
      let t : X → ℕ = r.0 in (
        max before.0 (t (s p)),
        λ c l.
            let b = before.1 c (omega arith) in
            let x : X → ℕ = b.0 in
            let t' : X → ℕ = λ i. t i + (y p + c - t (s p)) in
            let here : t' (s m) ≤ y m + c = shifted (t (s p)) (t (s m)) (y p) c (y m) (P p m) r.2 (fits p m hp (omega arith)) (omega arith) in
            (λ i. min (x i) (t' i), level.sooner x t' b.1 (level.moved t (y p + c - t (s p)) r.1), omega (arith, b.2), below_suc (λ q. min (x (s q)) (t' (s q)) ≤ y q + c) m (λ q k. omega (arith, b.3 q k)) (omega (arith, here))),
      )

  -- a member with every q no later than y q + c, and each p below m no earlier: the latest of those
  All : ℕ → Type 0
  All m = (c₀ : ℕ) × ((c : ℕ) → c₀ ≤ c → (x : X → ℕ) × K x × ((q : ℕ) → q < n → x (s q) ≤ y q + c) × ((p : ℕ) → p < m → y p + c ≤ x (s p)))

  all : (m : ℕ) → m < n → All (suc m)
  unfolding Row All
  all zero h =
      let r : Row 0 n = row 0 h n (omega arith) in (
        r.0,
        λ c l.
            let b = r.1 c l in
            (b.0, b.1, b.3, below_suc (λ p. y p + c ≤ b.0 (s p)) 0 (λ p k. absurd (omega arith)) (omega (arith, b.2))),
      )
  all (suc m) h =
      let r : Row (suc m) n = row (suc m) h n (omega arith) in
      let before : All (suc m) = all m (omega arith) in (
        max r.0 before.0,
        λ c l.
            let b = r.1 c (omega arith) in
            let a = before.1 c (omega arith) in
            let x : X → ℕ = a.0 in
            let z : X → ℕ = b.0 in
            (λ i. max (x i) (z i), level.later x z a.1 b.1, λ q k. omega (arith, a.2 q k, b.3 q k), below_suc (λ p. y p + c ≤ max (x (s p)) (z (s p))) (suc m) (λ p k. omega (arith, a.3 p k)) (omega (arith, b.2))),
      )

  -- both together: a member that has exactly the dates y, moved by c
  pub exact : 0 < n → (c₀ : ℕ) × ((c : ℕ) → c₀ ≤ c → (x : X → ℕ) × K x × ((p : ℕ) → p < n → x (s p) ≡ y p + c))
  unfolding All
  exact h =
      let m : ℕ = n - 1 in
      let e : suc (n - 1) ≡ n = omega arith in
      let a : All n = subst All e (all m (omega arith)) in (
        a.0,
        λ c l.
            let b = a.1 c l in
            (b.0, b.1, λ p k. omega (arith, b.2 p k, b.3 p k)),
      )
