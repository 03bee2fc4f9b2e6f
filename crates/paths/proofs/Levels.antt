-- What the dates of a system of difference constraints have in common.
use Rattle.std.proofs.Common.{ℕ, suc, ◌+◌, min, max, List, arith}
use Rattle.bookformat.specs.declared.value.Interval.{Interval}
use Rattle.bookformat.specs.Values.{ChartValue, BookValue}
use Rattle.paths.specs.Paths.{link_at, chart_at}
use Rattle.paths.specs.Datings.{Within, constraint, interval, KeepsChart, Dating}

-- A set K of dates for the places X: moved later by a constant they are in it, and so are the earlier and the later of two, place by place
pub record Level (X : Type 0) (K : (X → ℕ) → Type 0) : Type 0 where
  pub moved : (x : X → ℕ) (m : ℕ) → K x → K (λ i. x i + m)
  pub sooner : (x y : X → ℕ) → K x → K y → K (λ i. min (x i) (y i))
  pub later : (x y : X → ℕ) → K x → K y → K (λ i. max (x i) (y i))

pub within_moved : (i : Interval) (x y m : ℕ) → Within i x y → Within i (x + m) (y + m)
within_moved i x y m h = record { not_under = omega arith; not_over = λ u e. omega (arith, h.not_over u e) }

within_sooner : (i : Interval) (x y x' y' : ℕ) → Within i x y → Within i x' y' → Within i (min x x') (min y y')
within_sooner i x y x' y' h g = record { not_under = omega arith; not_over = λ u e. omega (arith, h.not_over u e, g.not_over u e) }

within_later : (i : Interval) (x y x' y' : ℕ) → Within i x y → Within i x' y' → Within i (max x x') (max y y')
within_later i x y x' y' h g = record { not_under = omega arith; not_over = λ u e. omega (arith, h.not_over u e, g.not_over u e) }

pub chart_level : (b : BookValue) (c : ChartValue) → Level ℕ (KeepsChart b c)
chart_level b c = record {
  moved = λ d m h. record {
    order = λ e f q. omega (arith, h.order e f q);
    constraints = λ k q. within_moved (constraint c k).interval (d (constraint c k).first) (d (constraint c k).second) m (h.constraints k q);
    near = λ e f p q. omega (arith, h.near e f p q);
    far = λ e f p. omega (arith, h.far e f p);
  };
  sooner = λ d d' h g. record {
    order = λ e f q. omega (arith, h.order e f q, g.order e f q);
    constraints = λ k q. within_sooner (constraint c k).interval (d (constraint c k).first) (d (constraint c k).second) (d' (constraint c k).first) (d' (constraint c k).second) (h.constraints k q) (g.constraints k q);
    near = λ e f p q. omega (arith, h.near e f p q, g.near e f p q);
    far = λ e f p. omega (arith, h.far e f p, g.far e f p);
  };
  later = λ d d' h g. record {
    order = λ e f q. omega (arith, h.order e f q, g.order e f q);
    constraints = λ k q. within_later (constraint c k).interval (d (constraint c k).first) (d (constraint c k).second) (d' (constraint c k).first) (d' (constraint c k).second) (h.constraints k q) (g.constraints k q);
    near = λ e f p q. omega (arith, h.near e f p q, g.near e f p q);
    far = λ e f p. omega (arith, h.far e f p, g.far e f p);
  };
}

-- the dates of a path as dates of its events
abbrev pub dates : (ℕ × ℕ → ℕ) → ℕ → ℕ → ℕ
dates x k e = x (k, e)

pub path_level : (b : BookValue) (path : List ℕ) → Level (ℕ × ℕ) (λ x. Dating b path (dates x))
path_level b path = record {
  moved = λ x m h. record {
    charts = λ k l. (chart_level b (chart_at b path k)).moved (dates x k) m (h.charts k l);
    links = λ k l. record { intervals = λ p e f q s t. within_moved (interval (link_at b path k) p) (x (k, e)) (x (suc k, f)) m ((h.links k l).intervals p e f q s t) };
  };
  sooner = λ x z h g. record {
    charts = λ k l. (chart_level b (chart_at b path k)).sooner (dates x k) (dates z k) (h.charts k l) (g.charts k l);
    links = λ k l. record { intervals = λ p e f q s t. within_sooner (interval (link_at b path k) p) (x (k, e)) (x (suc k, f)) (z (k, e)) (z (suc k, f)) ((h.links k l).intervals p e f q s t) ((g.links k l).intervals p e f q s t) };
  };
  later = λ x z h g. record {
    charts = λ k l. (chart_level b (chart_at b path k)).later (dates x k) (dates z k) (h.charts k l) (g.charts k l);
    links = λ k l. record { intervals = λ p e f q s t. within_later (interval (link_at b path k) p) (x (k, e)) (x (suc k, f)) (z (k, e)) (z (suc k, f)) ((h.links k l).intervals p e f q s t) ((g.links k l).intervals p e f q s t) };
  };
}

-- the earlier of two datings, event by event
pub minimum : (b : BookValue) (path : List ℕ) (d d' : ℕ → ℕ → ℕ) → Dating b path d → Dating b path d' → Dating b path (λ k e. min (d k e) (d' k e))
minimum b path d d' h g = (path_level b path).sooner (λ i. d i.0 i.1) (λ i. d' i.0 i.1) h g
