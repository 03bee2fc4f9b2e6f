-- How late the earliest dating can be.
use Rattle.std.proofs.Common.{◌≡◌, ℕ, zero, suc, ◌+◌, ◌-◌, ◌*◌, ◌<◌, ◌≤◌, ◌⊎◌, List, length, get_or, sym, refl, ap, ◌∙◌, subst, subst₂, inl, inr, ⊎_elim, mul-le-mul_right, suc-mul, eq-or-lt_of_le, arith}
use native.Mathlib.Decide.{dec_lt}
use Rattle.bookformat.specs.declared.value.Interval.{Interval}
use Rattle.bookformat.specs.Values.{BookValue}
use Rattle.bookformat.specs.Rules.{chart, GoodBook}
use Rattle.paths.specs.Charts.{event_stations, event_count}
use Rattle.paths.specs.Paths.{link_at, chart_number, chart_at}
use Rattle.paths.specs.Datings.{Within, constraint, interval, KeepsChart, KeepsLink, Dating, EventOf, Earliest}
use Rattle.paths.proofs.Finite.{below_suc, all_or_not}
use Rattle.paths.proofs.Full.{last_event, first_event, first_no_later, working_exists}
use Rattle.paths.proofs.Facts.{chart_facts, lower_most, spread}

-- both dates of an interval, one tick earlier
both_earlier : (i : Interval) (x y : ℕ) → 1 ≤ x → Within i x y → Within i (x - 1) (y - 1)
both_earlier i x y p w = record { not_under = omega arith; not_over = λ u e. omega (arith, w.not_over u e) }

-- the later one alone, where it has room
one_earlier : (i : Interval) (x y : ℕ) → x + i.lower < y → Within i x y → Within i x (y - 1)
one_earlier i x y g w = record { not_under = omega arith; not_over = λ u e. omega (arith, w.not_over u e) }

-- dates of a chart, each one tick earlier
chart_earlier : (b : BookValue) → GoodBook b → (c : ℕ) (d : ℕ → ℕ) → ((e : ℕ) → e < event_count b (chart b c) → 1 ≤ d e) → KeepsChart b (chart b c) d → KeepsChart b (chart b c) (λ e. d e - 1)
chart_earlier b good c d pos h = record {
  order = λ e f q. omega (arith, h.order e f q);
  constraints = λ k q. let first : ℕ = (constraint (chart b c) k).first in
      both_earlier (constraint (chart b c) k).interval (d first) (d (constraint (chart b c) k).second) (pos first (working_exists b (chart b c) first ((chart_facts b good c).named k q).0)) (h.constraints k q);
  near = λ e f p q. omega (arith, h.near e f p q);
  far = λ e f p. omega (arith, h.far e f p);
}

pick : {j t : ℕ} → Dec (j < t) → (ℕ → ℕ) → ℕ → ℕ
pick (yes h) d e = d e
pick (no h) d e = d e - 1

pick_yes : {j t : ℕ} (c : Dec (j < t)) (d : ℕ → ℕ) → j < t → d ≡ pick c d
unfolding pick
pick_yes (yes h) d l = refl
pick_yes (no h) d l = absurd (h l)

pick_no : {j t : ℕ} (c : Dec (j < t)) (d : ℕ → ℕ) → ¬ (j < t) → (λ e. d e - 1) ≡ pick c d
unfolding pick
pick_no (yes h) d l = absurd (l h)
pick_no (no h) d l = refl

module _ (b : BookValue) (good : GoodBook b) (path : List ℕ) (d : ℕ → ℕ → ℕ) (dating : Dating b path d) where
  abbrev n : ℕ
  n = length path

  abbrev count : ℕ → ℕ
  count k = event_count b (chart_at b path k)

  -- some event of the chart before is no later
  ahead : (k e : ℕ) → k < n → e < count (suc k) → (f : ℕ) × (f < count k) × (d k f ≤ d (suc k) e)
  ahead k e hk he =
      let p : ℕ = get_or (event_stations b (chart_at b path (suc k))) e 0 in
      let hp : p < b.stations = (chart_facts b good (chart_number b path (suc k))).station e he in
      let f = first_event b (chart_at b path (suc k)) p hp in
      let l = last_event b (chart_at b path k) p hp in
      let w = (dating.links k hk).intervals p l.0 f.0 hp l.1 f.1 in
      (l.0, l.1.on.exists, omega (arith, w.not_under, first_no_later b (chart_at b path (suc k)) (d (suc k)) (dating.charts (suc k) hk) p f.0 e f.1 (record { exists = he; station = refl })))

  -- so from a chart on whose dates are all positive they stay positive
  stays : (t j : ℕ) → ((e : ℕ) → e < count t → 1 ≤ d t e) → t ≤ j → j ≤ n → (e : ℕ) → e < count j → 1 ≤ d j e
  stays t zero pos l h e he = subst (λ (q : ℕ). (e : ℕ) → e < count q → 1 ≤ d q e) (omega arith) pos e he
  stays t (suc j) pos l h e he = ⊎_elim
      (λ q. subst (λ (r : ℕ). (e : ℕ) → e < count r → 1 ≤ d r e) q pos e he)
      (λ q. let a = ahead j e h he in omega (arith, a.2, stays t j pos (omega arith) (omega arith) a.0 a.1))
      (eq-or-lt_of_le l)

  -- from position t on all charts can be dated one tick earlier
  record Loose : Type 0 where
    t : ℕ
    on_path : t ≤ n
    pos : (e : ℕ) → e < count t → 1 ≤ d t e
    gap : (k : ℕ) → suc k ≡ t → (e f : ℕ) → e < count k → f < count t → d k e + 10000 < d t f

  module _ (loose : Loose) where
    abbrev t : ℕ
    t = loose.t

    earlier : ℕ → ℕ → ℕ
    earlier j = pick (dec_lt j t) (d j)

    before : (j : ℕ) → j < t → d j ≡ earlier j
    unfolding earlier
    before j h = pick_yes (dec_lt j t) (d j) h

    after : (j : ℕ) → ¬ (j < t) → (λ e. d j e - 1) ≡ earlier j
    unfolding earlier
    after j h = pick_no (dec_lt j t) (d j) h

    positive : (j : ℕ) → t ≤ j → j ≤ n → (e : ℕ) → e < count j → 1 ≤ d j e
    positive j = stays t j loose.pos

    gap_at : (k : ℕ) → suc k ≡ t → (e f : ℕ) → e < count k → f < count (suc k) → d k e + 10000 < d (suc k) f
    gap_at k at e f he hf = subst (λ (q : ℕ). f < count q → d k e + 10000 < d q f) (sym at) (λ g. loose.gap k at e f he g) hf

    earlier_dating : Dating b path earlier
    earlier_dating = record { charts = λ k h. charts k h (dec_lt k t); links = λ k h. links k h (dec_lt k t) (dec_lt (suc k) t) }
      where
        charts : (k : ℕ) → k ≤ n → Dec (k < t) → KeepsChart b (chart_at b path k) (earlier k)
        charts k h (yes l) = subst (KeepsChart b (chart_at b path k)) (before k l) (dating.charts k h)
        charts k h (no l) = subst (KeepsChart b (chart_at b path k)) (after k l) (chart_earlier b good (chart_number b path k) (d k) (positive k (omega arith) h) (dating.charts k h))

        Kept : (k : ℕ) → (ℕ → ℕ) → (ℕ → ℕ) → Type 0
        Kept k = KeepsLink b (link_at b path k) (chart_at b path k) (chart_at b path (suc k))

        links : (k : ℕ) → k < n → Dec (k < t) → Dec (suc k < t) → Kept k (earlier k) (earlier (suc k))
        links k h (yes l) (yes m) = subst₂ (Kept k) (before k l) (before (suc k) m) (dating.links k h)
        links k h (yes l) (no m) = subst₂ (Kept k) (before k l) (after (suc k) m) (record {
          intervals = λ p e f hp he hf.
              one_earlier (interval (link_at b path k) p) (d k e) (d (suc k) f)
              (omega (arith, lower_most b good (get_or path k 0) p, gap_at k (omega arith) e f he.on.exists hf.on.exists))
              ((dating.links k h).intervals p e f hp he hf);
        })
        links k h (no l) (yes m) = absurd (omega arith)
        links k h (no l) (no m) = subst₂ (Kept k) (after k l) (after (suc k) m) (record {
          intervals = λ p e f hp he hf.
              both_earlier (interval (link_at b path k) p) (d k e) (d (suc k) f) (positive k (omega arith) (omega arith) e he.on.exists) ((dating.links k h).intervals p e f hp he hf);
        })

    earlier_by_one : (k e : ℕ) → t ≤ k → EventOf b path k e → earlier k e + 1 ≡ d k e
    earlier_by_one k e l at = omega (arith, ap (λ (f : ℕ → ℕ). f e) (after k (omega arith)), positive k l at.position e at.event)

-- The limits

module _ (b : BookValue) (good : GoodBook b) (path : List ℕ) where
  abbrev limit : ℕ → ℕ
  limit k = k * (10000 + b.far) + b.far

  -- no date before position m is above its limit
  abbrev Low : (ℕ → ℕ → ℕ) → ℕ → Type 0
  Low d m = (k : ℕ) → k < m → (e : ℕ) → e < event_count b (chart_at b path k) → d k e ≤ limit k

  beyond : (d : ℕ → ℕ → ℕ) (h : Dating b path d) (m : ℕ) → m ≤ length path → Low d m → (e : ℕ) → e < event_count b (chart_at b path m) → limit m < d m e → Loose b good path d h
  beyond d h m hm low e he over = record {
    t = m;
    on_path = hm;
    pos = λ f hf. omega (arith, spread b good (chart_at b path m) (d m) (h.charts m hm) e f he hf);
    gap = λ k q g f hg hf.
        let near : d k g ≤ limit k = low k (omega arith) g hg in
        let step : m * (10000 + b.far) ≡ k * (10000 + b.far) + (10000 + b.far) = ap (λ (i : ℕ). i * (10000 + b.far)) (sym q) ∙ suc-mul k (10000 + b.far) in
        omega (arith, spread b good (chart_at b path m) (d m) (h.charts m hm) e f he hf);
  }

  look : (d : ℕ → ℕ → ℕ) (h : Dating b path d) (m : ℕ) → m ≤ suc (length path) → Loose b good path d h ⊎ Low d m
  look d h zero hm = inr (λ k l. absurd (omega arith))
  look d h (suc m) hm = ⊎_elim inl
      (λ low. ⊎_elim
      (λ r. inr (below_suc (λ k. (e : ℕ) → e < event_count b (chart_at b path k) → d k e ≤ limit k) m low (λ e he. omega (arith, r e he))))
      (λ r. inl (beyond d h m (omega arith) low r.0 r.1 (omega (arith, r.2))))
      (all_or_not (event_count b (chart_at b path m)) (λ e. d m e < suc (limit m)) (λ e. dec_lt (d m e) (suc (limit m)))))
      (look d h m (omega arith))

  -- a path that can be dated has a dating within the limits, and it dates the last chart earlier by a constant
  record Lowered (d : ℕ → ℕ → ℕ) : Type 0 where
    d' : ℕ → ℕ → ℕ
    dating : Dating b path d'
    low : Low d' (suc (length path))
    moved : ℕ
    by : (e : ℕ) → e < event_count b (chart_at b path (length path)) → d' (length path) e + moved ≡ d (length path) e

  lower : (fuel e₀ : ℕ) → e₀ < event_count b (chart_at b path (length path)) → (d : ℕ → ℕ → ℕ) → Dating b path d → d (length path) e₀ < fuel → Lowered d
  lower zero e₀ h₀ d h l = absurd (omega arith)
  lower (suc fuel) e₀ h₀ d h l = ⊎_elim
      (λ r.
      let one : (e : ℕ) → e < event_count b (chart_at b path (length path)) → earlier b good path d h r (length path) e + 1 ≡ d (length path) e =
      λ e he. earlier_by_one b good path d h r (length path) e r.on_path (record { position = omega arith; event = he }) in
      go d (earlier b good path d h r) one (lower fuel e₀ h₀ (earlier b good path d h r) (earlier_dating b good path d h r) (omega (arith, one e₀ h₀))))
      (λ r. record { d' = d; dating = h; low = r; moved = 0; by = λ e he. omega arith })
      (look d h (suc (length path)) (omega arith))
    where
      go : (d d₁ : ℕ → ℕ → ℕ) → ((e : ℕ) → e < event_count b (chart_at b path (length path)) → d₁ (length path) e + 1 ≡ d (length path) e) → Lowered d₁ → Lowered d
      go d d₁ one r = record { d' = r.d'; dating = r.dating; low = r.low; moved = suc r.moved; by = λ e he. omega (arith, one e he, r.by e he) }

  pub lowered : (d : ℕ → ℕ → ℕ) → Dating b path d → (d' : ℕ → ℕ → ℕ) × Dating b path d' × ((k e : ℕ) → EventOf b path k e → d' k e ≤ limit k) × (m : ℕ) × ((e : ℕ) → e < event_count b (chart_at b path (length path)) → d' (length path) e + m ≡ d (length path) e)
  lowered d h =
      let e = last_event b (chart_at b path (length path)) 0 (omega (arith, good.stations_least)) in
      let r = lower (suc (d (length path) e.0)) e.0 e.1.on.exists d h (omega arith) in
      (r.d', r.dating, λ k f at. r.low k (omega (arith, at.position)) f at.event, r.moved, r.by)

  -- so the earliest dating is within the limits
  pub earliest_most : (d : ℕ → ℕ → ℕ) → Earliest b path d → (k e : ℕ) → EventOf b path k e → d k e ≤ k * (10000 + b.far) + b.far
  earliest_most d early k e at =
      let r = lowered d early.dating in
      omega (arith, early.earliest r.0 r.1 k e at, r.2 k e at)

  pub earliest_fits : (d : ℕ → ℕ → ℕ) → Earliest b path d → length path < 4096 → (k e : ℕ) → EventOf b path k e → d k e ≤ 81910000
  earliest_fits d early short k e at =
      let few : k ≤ 4095 = omega (arith, at.position) in
      let far : b.far ≤ 10000 = good.far_most in
      let r : k * (10000 + b.far) ≤ 4095 * (10000 + b.far) = mul-le-mul_right (10000 + b.far) few in
      omega (arith, earliest_most d early k e at)
