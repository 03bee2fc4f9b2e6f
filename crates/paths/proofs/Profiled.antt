-- The largest differences are unique, and within far.
use Rattle.std.proofs.Common.{◌≡◌, ℕ, ◌+◌, ◌<◌, ◌≤◌, ℤ, pos, ◌≤ℤ◌, ap, ◌∙◌, subst, arith}
use Rattle.std.proofs.lemmas.Int.{ints}
use Rattle.bookformat.specs.Values.{ChartValue, BookValue}
use Rattle.bookformat.specs.Rules.{GoodBook}
use Rattle.paths.specs.Datings.{KeepsChart}
use Rattle.paths.specs.Profiles.{difference, Lasts, Largest, WithinFar}
use Rattle.paths.proofs.Full.{last_event, one_last}
use Rattle.paths.proofs.Facts.{spread}

module _ (b : BookValue) (c : ChartValue) (S : Type 0) (dates : S → ℕ → ℕ) where
  ends : (p q : ℕ) → p < b.stations → q < b.stations → (e f : ℕ) × Lasts b c p q e f
  ends p q hp hq =
      let e = last_event b c p hp in
      let f = last_event b c q hq in
      (e.0, f.0, record { p_exists = hp; q_exists = hq; p_last = e.1; q_last = f.1 })

  pub largest_unique : (P Q : ℕ → ℕ → ℤ) → Largest b c S dates P → Largest b c S dates Q → (p q : ℕ) → p < b.stations → q < b.stations → P p q ≡ Q p q
  largest_unique P Q h g p q hp hq =
      let (e, f, at) = ends p q hp hq in
      let r = h.reached p q e f at in
      let s = g.reached p q e f at in
      same (P p q) (Q p q) (difference (dates r.0 e) (dates r.0 f)) (difference (dates s.0 e) (dates s.0 f)) r.1 s.1 (g.bounds p q e f at r.0) (h.bounds p q e f at s.0)
    where
      same : (u v x z : ℤ) → x ≡ u → z ≡ v → x ≤ℤ v → z ≤ℤ u → u ≡ v
      same u v x z i j k l = omega (arith, ints)

  pub largest_own : (P : ℕ → ℕ → ℤ) → Largest b c S dates P → (p : ℕ) → p < b.stations → P p p ≡ pos 0
  largest_own P h p hp =
      let (e, f, at) = ends p p hp hp in
      let r = h.reached p p e f at in
      zero_at (P p p) (dates r.0 e) (dates r.0 f) r.1 (ap (dates r.0) (one_last b c p e f at.p_last at.q_last))
    where
      zero_at : (u : ℤ) (x y : ℕ) → difference x y ≡ u → x ≡ y → u ≡ pos 0
      zero_at u x y i j = omega (arith, ints)

  pub largest_within : GoodBook b → ((s : S) → KeepsChart b c (dates s)) → (P : ℕ → ℕ → ℤ) → Largest b c S dates P → (p q : ℕ) → p < b.stations → q < b.stations → WithinFar b (P p q)
  largest_within good kept P h p q hp hq =
      let (e, f, at) = ends p q hp hq in
      let r = h.reached p q e f at in
      far_at (P p q) (dates r.0 e) (dates r.0 f) r.1
      (spread b good c (dates r.0) (kept r.0) e f at.p_last.on.exists at.q_last.on.exists)
      (spread b good c (dates r.0) (kept r.0) f e at.q_last.on.exists at.p_last.on.exists)
    where
      far_at : (u : ℤ) (x y : ℕ) → difference x y ≡ u → x ≤ y + b.far → y ≤ x + b.far → WithinFar b u
      far_at u x y i j k = record { most = omega (arith, ints); least = omega (arith, ints) }

  -- only the entries of two stations count
  pub largest_like : (P Q : ℕ → ℕ → ℤ) → ((p q : ℕ) → p < b.stations → q < b.stations → P p q ≡ Q p q) → Largest b c S dates P → Largest b c S dates Q
  largest_like P Q same h = record {
    bounds = λ p q e f at s. subst (λ (w : ℤ). difference (dates s e) (dates s f) ≤ℤ w) (same p q at.p_exists at.q_exists) (h.bounds p q e f at s);
    reached = λ p q e f at. let r = h.reached p q e f at in (r.0, r.1 ∙ same p q at.p_exists at.q_exists);
  }
