-- What a table that says the rules of a chart, or of a step, decides.
use Rattle.std.proofs.Common.{◌≡◌, ℕ, suc, ◌+◌, ◌-◌, ◌<◌, ◌≤◌, ℤ, pos, ◌≤ℤ◌, Some, None, Option, sym, refl, ap, subst, subst₂, arith}
use mathlib.Core.Path.{fun_ext}
use native.Mathlib.Decide.{ℕ_discrete, dec_lt}
use Rattle.std.proofs.lemmas.Int.{ints}
use Rattle.bookformat.specs.declared.value.Link.{Link}
use Rattle.bookformat.specs.Values.{ChartValue, BookValue}
use Rattle.bookformat.specs.Rules.{GoodBook}
use Rattle.paths.specs.Charts.{event_count}
use Rattle.paths.specs.Datings.{Within, interval, KeepsChart}
use Rattle.paths.specs.Profiles.{difference, Lasts, WithinFar}
use Rattle.paths.specs.Bounds.{Keeps}
use Rattle.paths.specs.Steps.{enters, Step, Solution}
use Rattle.paths.specs.Tables.{Table, Entry, ShortestWalks, Says, SaysChart, SaysStep, step_places, TableDecides}
use Rattle.paths.proofs.Facts.{spread}
use Rattle.paths.proofs.Asked.{cycle_forbids}
use Rattle.paths.proofs.Closed as closed

-- A table that says K, where K has the rules of the chart c for the places from first on, and S is the dates of K as its members see them
module _ (b : BookValue) (good : GoodBook b) (c : ChartValue) (S : Type 0) (dates : S → ℕ → ℕ) (first n : ℕ) (A : Table) (K : (ℕ → ℕ) → Type 0)
    (fits : first + event_count b c ≡ n) (says : Says n K A)
    (kept : (z : ℕ → ℕ) → K z → KeepsChart b c (λ e. z (first + e)))
    (places : (s : S) → (z : ℕ → ℕ) × K z × ((e : ℕ) → z (first + e) ≡ dates s e))
    (member : (z : ℕ → ℕ) → K z → (s : S) × ((e : ℕ) → dates s e ≡ z (first + e))) where
  module _ (D : Table) (closes : ShortestWalks n A D) where
    a_member : S
    a_member = let r = closed.solvable n A D closes in (member r.0 ((says.exact r.0).1 r.1)).0

    module _ (p q e f : ℕ) (lasts : Lasts b c p q e f) where
      he : first + e < n
      he = omega (arith, fits, lasts.p_last.on.exists)

      hf : first + f < n
      hf = omega (arith, fits, lasts.q_last.on.exists)

      -- one event alone
      own : e ≡ f → D (first + f) (first + e) ≡ Some (pos 0)
      own s = subst (λ (k : ℕ). D (first + f) (first + k) ≡ Some (pos 0)) (sym s) (closed.own_closed n A D closes says.own (first + f) hf)

      apart : ¬ (e ≡ f) → ¬ (first + f ≡ first + e)
      apart d s = d (omega arith)

      -- the dates of the two events are within far of each other
      near : (z : ℕ → ℕ) → Keeps (Entry n A) z → (z (first + e) ≤ z (first + f) + b.far) × (z (first + f) ≤ z (first + e) + b.far)
      near z keeps =
          let h : KeepsChart b c (λ k. z (first + k)) = kept z ((says.exact z).1 keeps) in (
            spread b good c (λ k. z (first + k)) h e f lasts.p_last.on.exists lasts.q_last.on.exists,
            spread b good c (λ k. z (first + k)) h f e lasts.q_last.on.exists lasts.p_last.on.exists,
          )

      read : (w : Option ℤ) → D (first + f) (first + e) ≡ w → Dec (e ≡ f) → (w : ℤ) × (D (first + f) (first + e) ≡ Some w) × WithinFar b w
      read w s (yes d) = (pos 0, own d, record { most = omega (arith, ints); least = omega (arith, ints) })
      read (Some w) s (no d) =
          let r = closed.attained n A D closes (first + f) (first + e) w (hf, he, s) (apart d) in
          let g = near r.0 r.1 in
          let x : ℕ = r.0 (first + e) in
          let y : ℕ = r.0 (first + f) in
          let is : difference x y ≡ w = r.2 in
          (w, s, record { most = omega (arith, ints, g.0); least = omega (arith, ints, g.1) })
      read None s (no d) =
          let r = closed.unlimited n A D closes (first + f) (first + e) hf he (apart d) s (suc b.far) in
          absurd (omega (arith, r.2, (near r.0 r.1).0))

      module _ (w : ℤ) (is : D (first + f) (first + e) ≡ Some w) where
        bound : (s : S) → difference (dates s e) (dates s f) ≤ℤ w
        bound s =
            let r = places s in
            let h : difference (r.0 (first + e)) (r.0 (first + f)) ≤ℤ w = closed.closed_kept n A D closes r.0 ((says.exact r.0).0 r.1) (first + f) (first + e) w (hf, he, is) in
            subst₂ (λ (u v : ℕ). difference u v ≤ℤ w) (r.2 e) (r.2 f) h

        reach : Dec (e ≡ f) → (s : S) × (difference (dates s e) (dates s f) ≡ w)
        reach (yes d) =
            let same : pos 0 ≡ w = let t : D (first + f) (first + e) ≡ Some (pos 0) = own d in cc in
            let t : dates a_member e ≡ dates a_member f = ap (dates a_member) d in
            (a_member, omega (arith, ints))
        reach (no d) =
            let r = closed.attained n A D closes (first + f) (first + e) w (hf, he, is) (apart d) in
            let s = member r.0 ((says.exact r.0).1 r.1) in
            (s.0, subst₂ (λ (u v : ℕ). difference u v ≡ w) (sym (s.1 e)) (sym (s.1 f)) r.2)

  pub decides : TableDecides b c S dates n first A
  decides = record {
    unsolvable = λ bad s. let r = places s in cycle_forbids bad r.0 ((says.exact r.0).0 r.1);
    solvable = a_member;
    readable = λ D closes p q e f lasts. read D closes p q e f lasts (D (first + f) (first + e)) refl (ℕ_discrete e f);
    profile = λ D closes Q reads. record {
      bounds = λ p q e f lasts. bound D closes p q e f lasts (Q p q) (reads p q e f lasts);
      reached = λ p q e f lasts. reach D closes p q e f lasts (Q p q) (reads p q e f lasts) (ℕ_discrete e f);
    };
  }

-- A chart alone

pub chart_decides : (b : BookValue) → GoodBook b → (c : ChartValue) (A : Table) → SaysChart b c A → TableDecides b c ((d : ℕ → ℕ) × KeepsChart b c d) (λ s. s.0) (event_count b c) 0 A
chart_decides b good c A says = decides b good c ((d : ℕ → ℕ) × KeepsChart b c d) (λ s. s.0) 0 (event_count b c) A (KeepsChart b c) (omega arith) says
    (λ z h. subst (KeepsChart b c) (fun_ext (λ e. ap z (from_0 e))) h)
    (λ s. (s.0, s.1, λ e. ap s.0 (sym (from_0 e))))
    (λ z h. ((z, h), λ e. ap z (from_0 e)))
  where
    from_0 : (e : ℕ) → e ≡ 0 + e
    from_0 e = omega arith

-- A step

module _ (n : ℕ) (y x : ℕ → ℕ) where
  pick : (k : ℕ) → Dec (k < n) → ℕ
  pick k (yes h) = y k
  pick k (no h) = x (k - n)

  both : ℕ → ℕ
  both k = pick k (dec_lt k n)

  pick_low : (k : ℕ) (c : Dec (k < n)) → k < n → y k ≡ pick k c
  unfolding pick
  pick_low k (yes q) h = refl
  pick_low k (no q) h = absurd (q h)

  pick_high : (e : ℕ) (c : Dec (n + e < n)) → x e ≡ pick (n + e) c
  unfolding pick
  pick_high e (yes q) = absurd (omega arith)
  pick_high e (no q) = ap x (omega arith)

  both_low : (k : ℕ) → k < n → y k ≡ both k
  unfolding both
  both_low k h = pick_low k (dec_lt k n) h

  both_high : (e : ℕ) → x e ≡ both (n + e)
  unfolding both
  both_high e = pick_high e (dec_lt (n + e) n)

-- the dates of a solution, place by place
placed : (b : BookValue) (l : Link) (P : ℕ → ℕ → ℤ) (y x : ℕ → ℕ) → Step b l P y x → Step b l P (both b.stations y x) (λ e. both b.stations y x (b.stations + e))
placed b l P y x h =
    let low = both_low b.stations y x in
    let high = both_high b.stations y x in
    record {
      profile = λ p q hp hq. subst₂ (λ (u v : ℕ). difference u v ≤ℤ P p q) (low p hp) (low q hq) (h.profile p q hp hq);
      intervals = λ p f hp hf. subst₂ (Within (interval l p)) (low p hp) (high f) (h.intervals p f hp hf);
      chart = subst (KeepsChart b (enters b l)) (fun_ext high) h.chart;
    }

pub step_decides : (b : BookValue) → GoodBook b → (l : Link) (P : ℕ → ℕ → ℤ) (A : Table) → SaysStep b l P A → TableDecides b (enters b l) (Solution b l P) (λ s. s.1) (step_places b l) b.stations A
step_decides b good l P A says = decides b good (enters b l) (Solution b l P) (λ s. s.1) b.stations (step_places b l) A (λ z. Step b l P z (λ e. z (b.stations + e))) refl says
    (λ z h. h.chart)
    (λ s. (both b.stations s.0 s.1, placed b l P s.0 s.1 s.2, λ e. sym (both_high b.stations s.0 s.1 e)))
    (λ z h. ((z, λ e. z (b.stations + e), h), λ e. refl))
