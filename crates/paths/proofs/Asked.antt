-- The rules of a dating are its bounds, and walks of bounds limit differences.
use Rattle.std.proofs.Common.{◌≡◌, ℕ, suc, ◌↔◌, List, ℤ, pos, neg_ℤ, ◌≤ℤ◌, ◌<ℤ◌, refl, ap, ◌∙◌, arith}
use Rattle.std.proofs.lemmas.Int.{ints}
use Rattle.bookformat.specs.declared.value.Interval.{Interval}
use Rattle.bookformat.specs.declared.value.Link.{Link}
use Rattle.bookformat.specs.Values.{ChartValue, BookValue}
use Rattle.paths.specs.Paths.{link_at, chart_at}
use Rattle.paths.specs.Datings.{Within, constraint, interval, drift, KeepsChart, KeepsLink, Dating, Datable}
use Rattle.paths.specs.Profiles.{difference}
use Rattle.paths.specs.Bounds.{Rule, by_order, by_constraint, by_link, by_near, by_far, IntervalBound, upper, lower, ChartBound, order, constraint_interval, near, far, Side, left, entered, LinkBound, link_interval, PathEvent, on_side, PathBound, in_chart, across_link, AskedOfChart, AskedOfLink, AskedOfPath, side_dates, path_dates, Keeps, BoundWalk, one, more, BadCycle}

-- Intervals

interval_keeps : {X : Type 0} (i : Interval) (x y : X) (d : X → ℕ) → Within i (d x) (d y) → (from to : X) (w : ℤ) → IntervalBound i x y from to w → difference (d to) (d from) ≤ℤ w
interval_keeps i x y d h from to w (upper u e p q r) = omega (arith, ints, h.not_over u e, ap d p, ap d q)
interval_keeps i x y d h from to w (lower p q r) = omega (arith, ints, h.not_under, ap d p, ap d q)

interval_kept : {X : Type 0} (i : Interval) (x y : X) (d : X → ℕ) → ((from to : X) (w : ℤ) → IntervalBound i x y from to w → difference (d to) (d from) ≤ℤ w) → Within i (d x) (d y)
interval_kept i x y d h = record {
  not_under = omega (arith, ints, h y x (neg_ℤ (pos i.lower)) (lower refl refl refl));
  not_over = λ u e. omega (arith, ints, h x y (pos u) (upper u e refl refl refl));
}

-- A chart

module _ (b : BookValue) (c : ChartValue) (d : ℕ → ℕ) where
  chart_keeps : KeepsChart b c d → (from to : ℕ) (w : ℤ) (r : Rule) → ChartBound b c from to w r → difference (d to) (d from) ≤ℤ w
  chart_keeps h from to w r (order e q z) = omega (arith, ints, h.order to from q)
  chart_keeps h from to w r (constraint_interval k e q i) = interval_keeps (constraint c k).interval (constraint c k).first (constraint c k).second d (h.constraints k q) from to w i
  chart_keeps h from to w r (near e p q z) = omega (arith, ints, h.near to from q p)
  chart_keeps h from to w r (far e s z) = omega (arith, ints, h.far to from s)

  pub chart_bounds : KeepsChart b c d ↔ Keeps (AskedOfChart b c) d
  chart_bounds = (
    λ h from to w a. chart_keeps h from to w a.0 a.1,
    λ h. record {
      order = λ e f q. omega (arith, ints, h f e (pos 0) (by_order, order refl q refl));
      constraints = λ k q. interval_kept (constraint c k).interval (constraint c k).first (constraint c k).second d (λ from to w i. h from to w (by_constraint, constraint_interval k refl q i));
      near = λ e f p q. omega (arith, ints, h f e (pos (drift b c e f)) (by_near, near refl q p refl));
      far = λ e f s. omega (arith, ints, h f e (pos (drift b c e f)) (by_far, far refl s refl));
    },
  )

-- A link

module _ (b : BookValue) (l : Link) (c c' : ChartValue) (d d' : ℕ → ℕ) where
  link_keeps : KeepsLink b l c c' d d' → (from to : Side) (w : ℤ) (r : Rule) → LinkBound b l c c' from to w r → difference (side_dates d d' to) (side_dates d d' from) ≤ℤ w
  link_keeps h from to w r (link_interval p e f z hp he hf i) = interval_keeps (interval l p) (left e) (entered f) (side_dates d d') (h.intervals p e f hp he hf) from to w i

  pub link_bounds : KeepsLink b l c c' d d' ↔ Keeps (AskedOfLink b l c c') (side_dates d d')
  link_bounds = (
    λ h from to w a. link_keeps h from to w a.0 a.1,
    λ h. record {
      intervals = λ p e f hp he hf. interval_kept (interval l p) (left e) (entered f) (side_dates d d') (λ from to w i. h from to w (by_link, link_interval p e f refl hp he hf i));
    },
  )

-- A dating

side_date : (d : ℕ → ℕ → ℕ) (k : ℕ) (x : Side) → path_dates d (on_side k x) ≡ side_dates (d k) (d (suc k)) x
side_date d k (left e) = refl
side_date d k (entered e) = refl

module _ (b : BookValue) (path : List ℕ) (d : ℕ → ℕ → ℕ) where
  path_keeps : Dating b path d → (from to : PathEvent) (w : ℤ) (r : Rule) → PathBound b path from to w r → difference (path_dates d to) (path_dates d from) ≤ℤ w
  path_keeps h from to w r (in_chart k e f l p q z) = omega (arith, ints, ap (path_dates d) p, ap (path_dates d) q, (chart_bounds b (chart_at b path k) (d k)).0 (h.charts k l) e f w (r, z))
  path_keeps h from to w r (across_link k x y l p q z) =
      omega (arith, ints, ap (path_dates d) p ∙ side_date d k x, ap (path_dates d) q ∙ side_date d k y, (link_bounds b (link_at b path k) (chart_at b path k) (chart_at b path (suc k)) (d k) (d (suc k))).0 (h.links k l) x y w (r, z))

  pub path_bounds : Dating b path d ↔ Keeps (AskedOfPath b path) (path_dates d)
  path_bounds = (
    λ h from to w a. path_keeps h from to w a.0 a.1,
    λ h. record {
      charts = λ k l. (chart_bounds b (chart_at b path k) (d k)).1 (λ e f w a. h (k, e) (k, f) w (a.0, in_chart k e f l refl refl a.1));
      links = λ k l. (link_bounds b (link_at b path k) (chart_at b path k) (chart_at b path (suc k)) (d k) (d (suc k))).1
          (λ x y w a. omega (arith, ints, side_date d k x, side_date d k y, h (on_side k x) (on_side k y) w (a.0, across_link k x y l refl refl a.1)));
    },
  )

-- Walks

pub walk_limits : {X : Type 0} {B : X → X → ℤ → Type 0} {x y : X} {w : ℤ} (d : X → ℕ) → Keeps B d → BoundWalk B x y w → difference (d y) (d x) ≤ℤ w
walk_limits d keeps (one {x} {y} {w} h) = keeps x y w h
walk_limits d keeps (more {x} {y} {z} {u} {v} {w} h t s) =
    let here : difference (d y) (d x) ≤ℤ u = keeps x y u h in
    let rest : difference (d z) (d y) ≤ℤ v = walk_limits d keeps t in
    omega (arith, ints)

pub cycle_forbids : {X : Type 0} {B : X → X → ℤ → Type 0} → BadCycle B → (d : X → ℕ) → Keeps B d → ⊥
cycle_forbids bad d keeps =
    let h : difference (d bad.place) (d bad.place) ≤ℤ bad.sum = walk_limits d keeps bad.walk in
    let n : bad.sum <ℤ pos 0 = bad.below in
    omega (arith, ints)

pub path_walk : (b : BookValue) (path : List ℕ) (d : ℕ → ℕ → ℕ) → Dating b path d → (x y : PathEvent) (w : ℤ) → BoundWalk (AskedOfPath b path) x y w → difference (path_dates d y) (path_dates d x) ≤ℤ w
path_walk b path d h x y w t = walk_limits (path_dates d) ((path_bounds b path d).0 h) t

pub path_cycle : (b : BookValue) (path : List ℕ) → BadCycle (AskedOfPath b path) → Datable b path → ⊥
path_cycle b path bad h = cycle_forbids bad (path_dates h.0) ((path_bounds b path h.0).0 h.1)
