-- The intervals of a link, from the events that are found in the lists of stations.
use Rattle.std.proofs.Common.{◌≡◌, ℕ, ◌+◌, ◌≤◌, Bool, List, length, Some, Option, sym, ap, subst, arith}
use native.Mathlib.Decide.{dec_lt}
use Rattle.bookformat.specs.declared.value.Interval.{Interval}
use Rattle.bookformat.specs.declared.value.Link.{Link}
use Rattle.bookformat.specs.Values.{ChartValue, BookValue}
use Rattle.bookformat.specs.Rules.{chart, GoodBook}
use Rattle.paths.specs.Charts.{event_stations, First, Last}
use Rattle.paths.specs.Datings.{Within, interval}
use Rattle.paths.specs.Paths.{link}
use Rattle.paths.proofs.Facts.{lower_most}
use Rattle.fullchart.specs.Finds.{FirstOn, LastOn}
use Rattle.routes.specs.declared.stop.Stop.{Stop}
use Rattle.earliest.specs.Raising.{Raises}
use Rattle.earliest.specs.Demands.{Each, Placed, StationKept, LinkKept}
use Rattle.earliest.proofs.Risen.{weaken}

-- One station

one_first : (l : List ℕ) (p e f : ℕ) → FirstOn l p (Some e) → FirstOn l p (Some f) → e ≡ f
one_first l p e f x y = elim (dec_lt e f) [
  | yes h ↦ absurd (y.2 e h x.1)
  | no h ↦ elim (dec_lt f e) [
    | yes g ↦ absurd (x.2 f g y.1)
    | no g ↦ omega arith
  ]
]

pub station_met : {l m : List ℕ} {c : Bool} (i x : Interval) → x ≡ i → (p : ℕ) (left : List ℕ) (first : ℕ) (entered : List ℕ) (next e f : ℕ) → LastOn left p (Some e) → FirstOn entered p (Some f) → Raises (λ z. Within x (z (first + e)) (z (next + f))) l m c → Raises (StationKept i p left first entered next) l m c
station_met {l} {m} {c} i x is p left first entered next e f last start r = subst (λ (y : Interval). Raises (StationKept y p left first entered next) l m c) is (weaken
    (λ z k. k e f last start)
    (λ z k e' f' last' start'. subst (λ n. Within x (z (first + n)) (z (next + f'))) (omega (arith, last.2 e' last'.0 last'.1, last'.2 e last.0 last.1))
    (subst (λ n. Within x (z (first + e)) (z (next + n))) (one_first entered p f f' start start') k))
    r)

-- All of them

last_on : (b : BookValue) (c : ChartValue) (p e : ℕ) → Last b c p e → LastOn (event_stations b c) p (Some e)
last_on b c p e h = (h.on.exists, h.on.station, λ k l s. h.last k (record { exists = l; station = s }))

on_last : (b : BookValue) (c : ChartValue) (p e : ℕ) → LastOn (event_stations b c) p (Some e) → Last b c p e
on_last b c p e h = record { on = record { exists = h.0; station = h.1 }; last = λ f o. h.2 f o.exists o.station }

first_on : (b : BookValue) (c : ChartValue) (p e : ℕ) → First b c p e → FirstOn (event_stations b c) p (Some e)
first_on b c p e h = (h.on.exists, h.on.station, λ k l s. absurd (omega (arith, h.first k (record { exists = omega (arith, h.on.exists); station = s }))))

on_first : (b : BookValue) (c : ChartValue) (p e : ℕ) → FirstOn (event_stations b c) p (Some e) → First b c p e
on_first b c p e h = record {
  on = record { exists = h.0; station = h.1 };
  first = λ f o. elim (dec_lt f e) [
    | yes l ↦ absurd (h.2 f l o.station)
    | no l ↦ omega arith
  ];
}

pub link_met : {m n : List ℕ} {t : Bool} (b : BookValue) (l : Link) (left entered : Stop) (room : ℕ) → Placed b left room → Placed b entered room → Raises (Each b.stations (λ p. StationKept (interval l p) p left.full.stations.items left.first entered.full.stations.items entered.first)) m n t → Raises (LinkKept b l (chart b left.number) left.first (chart b entered.number) entered.first) m n t
link_met b l left entered room x y r = weaken
    (λ z k p h e f last first. k.intervals p e f h (on_last b (chart b left.number) p e (subst (λ (s : List ℕ). LastOn s p (Some e)) x.full.stations last)) (on_first b (chart b entered.number) p f (subst (λ (s : List ℕ). FirstOn s p (Some f)) y.full.stations first)))
    (λ z k. record { intervals = λ p e f h last first. k p h e f (subst (λ (s : List ℕ). LastOn s p (Some e)) (sym x.full.stations) (last_on b (chart b left.number) p e last)) (subst (λ (s : List ℕ). FirstOn s p (Some f)) (sym y.full.stations) (first_on b (chart b entered.number) p f first)) })
    r

-- what was found in a slice is found in what it holds
pub found : (P : List ℕ → Option ℕ → Type 0) {slice l : List ℕ} {o : Option ℕ} {e : ℕ} → slice ≡ l → o ≡ Some e → P slice o → P l (Some e)
found P {slice} {l} {o} {e} is at h = subst (λ (x : List ℕ). P x (Some e)) is (subst (P slice) at h)

pub small_interval : (b : BookValue) → GoodBook b → (n p : ℕ) (l : Link) → l ≡ link b n → (interval l p).lower ≤ 10000
small_interval b good n p l is = subst (λ (x : Link). (interval x p).lower ≤ 10000) (sym is) (lower_most b good n p)

pub room_left : (b : BookValue) (s : Stop) (room other : ℕ) → Placed b s room → other ≡ room → s.first + length s.full.stations.items ≤ other
room_left b s room other placed e = omega (arith, placed.inside, ap length placed.full.stations)
