-- What the rules of a good book give of its charts and links, and the drift bound.
use Rattle.std.proofs.Common.{◌≡◌, ℕ, ◌+◌, ◌<◌, ◌≤◌, Bool, true, false, ltb, ◌⊎◌, [], length, get_or, sym, refl, ap, ◌∙◌, subst, ap₂, inl, inr, ⊎_elim, arith}
use native.Mathlib.Decide.{dec_lt}
use Rattle.std.proofs.lemmas.List.{get_or_past}
use Rattle.std.proofs.lemmas.Bool.{lt-ltb, le-ltb}
use Rattle.bookformat.specs.declared.value.Link.{Link}
use Rattle.bookformat.specs.declared.value.Interval.{Interval}
use Rattle.bookformat.specs.Values.{ChartValue, BookValue}
use Rattle.bookformat.specs.Rules.{unbounded, no_chart, no_link, chart, DirectlyBefore, listed_later, its_receive, GoodChart, GoodBook}
use Rattle.paths.specs.Charts.{Working, event_stations, event_count}
use Rattle.paths.specs.Paths.{link}
use Rattle.paths.specs.Datings.{constraint, interval, drift_of, drift, SilentPair, KeepsChart}
use Rattle.paths.proofs.Full.{count_most, station_exists}

-- no rule of the chart names an event or a station that is not there
pub record ChartFacts (b : BookValue) (c : ChartValue) : Type 0 where
  pub station : (e : ℕ) → e < event_count b c → get_or (event_stations b c) e 0 < b.stations
  pub order : (e f : ℕ) → DirectlyBefore c.events e f → Working c e × Working c f
  pub named : (k : ℕ) → k < length c.constraints → Working c (constraint c k).first × Working c (constraint c k).second
  pub count : event_count b c ≤ 48

good_chart : (b : BookValue) (c : ChartValue) → b.stations ≤ 8 → GoodChart b.stations c → ChartFacts b c
good_chart b c few good = record {
  station = station_exists b c good.on_station;
  order = order;
  named = λ k h. order (constraint c k).first (constraint c k).second (good.ordered k h);
  count = omega (arith, count_most b c, good.events_most);
}
  where
    order : (e f : ℕ) → DirectlyBefore c.events e f → Working c e × Working c f
    order e f (listed_later l h s) = (omega arith, h)
    order e f (its_receive h k p) = (h, subst (Working c) p (good.paired e h).exists)

no_chart_lem : (b : BookValue) → b.stations ≤ 8 → ChartFacts b no_chart
no_chart_lem b few = record {
  station = station_exists b no_chart (λ e h. absurd (omega arith));
  order = order;
  named = λ k h. absurd (omega arith);
  count = omega (arith, count_most b no_chart);
}
  where
    order : (e f : ℕ) → DirectlyBefore [] e f → Working no_chart e × Working no_chart f
    order e f (listed_later l h s) = absurd (omega arith)
    order e f (its_receive h k p) = absurd (omega arith)

-- a chart's number may be any: one that names nothing stands for a chart without events
pub chart_facts : (b : BookValue) → GoodBook b → (c : ℕ) → ChartFacts b (chart b c)
chart_facts b good c = elim (dec_lt c (length b.charts)) [
  | yes h ↦ good_chart b (chart b c) good.stations_most (good.charts c h)
  | no h ↦ subst (ChartFacts b) (sym (get_or_past b.charts c no_chart (omega arith))) (no_chart_lem b good.stations_most)
]

-- no interval of a link asks for more than 10,000 ticks
pub lower_most : (b : BookValue) → GoodBook b → (l p : ℕ) → (interval (link b l) p).lower ≤ 10000
lower_most b good l p = elim (dec_lt l (length b.links)) [
  | yes h ↦ elim (dec_lt p 8) [
    | yes q ↦ ((good.links l h).proper p q).lower_most
    | no q ↦ subst (λ (i : Interval). i.lower ≤ 10000) (sym (get_or_past (link b l).intervals p unbounded (omega (arith, (good.links l h).eight)))) (omega arith)
  ]
  | no h ↦ subst (λ (x : Link). (interval x p).lower ≤ 10000) (sym (get_or_past b.links l no_link (omega arith))) (omega arith)
]

-- The drift bound

far_left : (b : BookValue) (v : Bool) → drift_of b false v ≡ b.far
far_left b true = refl
far_left b false = refl

far_right : (b : BookValue) (v : Bool) → drift_of b v false ≡ b.far
far_right b true = refl
far_right b false = refl

module _ (b : BookValue) (c : ChartValue) (e f : ℕ) where
  abbrev working : ℕ
  working = length c.events

  pub drift_near : Working c e → Working c f → drift b c e f ≡ b.near
  drift_near p q = ap₂ (drift_of b) (lt-ltb e working p) (lt-ltb f working q)

  pub drift_far : SilentPair b c e f → drift b c e f ≡ b.far
  drift_far h = ⊎_elim
      (λ q. ap (λ (v : Bool). drift_of b v (ltb f working)) (le-ltb e working q) ∙ far_left b (ltb f working))
      (λ q. ap (drift_of b (ltb e working)) (le-ltb f working q) ∙ far_right b (ltb e working))
      h.silent

-- two dates of one chart differ by at most far
pub spread : (b : BookValue) → GoodBook b → (c : ChartValue) (d : ℕ → ℕ) → KeepsChart b c d → (e f : ℕ) → e < event_count b c → f < event_count b c → d e ≤ d f + b.far
spread b good c d h e f he hf = elim (dec_lt e (length c.events)) [
  | yes p ↦ elim (dec_lt f (length c.events)) [
    | yes q ↦ omega (arith, h.near e f p q, drift_near b c e f p q, good.near_far)
    | no q ↦ silent (inr (omega arith))
  ]
  | no p ↦ silent (inl (omega arith))
]
  where
    silent : (length c.events ≤ e) ⊎ (length c.events ≤ f) → d e ≤ d f + b.far
    silent s =
        let pair : SilentPair b c e f = record { first_exists = he; second_exists = hf; silent = s } in
        omega (arith, h.far e f pair, drift_far b c e f pair)
