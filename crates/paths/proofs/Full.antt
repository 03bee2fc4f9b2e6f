-- Every station has a first and a last event in a full chart, and only one.
use Rattle.std.proofs.Common.{◌≡◌, ℕ, zero, suc, ◌+◌, ◌-◌, ◌<◌, ◌≤◌, Bool, true, false, cond, ◌⊎◌, List, [], ◌∷◌, map, length, get_or, filter, sym, ap, ◌∙◌, inl, inr, ⊎_elim, arith, length-append}
use native.Mathlib.Decide.{ℕ_discrete, dec_lt}
use lib.ListN.{length-map}
use Rattle.std.specs.List.{ContainsAt as Has, range_with_len}
use Rattle.std.proofs.lemmas.List.{get_or_append_left, get_or-append_right, get_or-map}
use Rattle.std.proofs.ByRecursion.{has_append_right, kept_by_passes, All-get_or}
use Rattle.std.proofs.lemmas.Bool.{false≢true}
use Rattle.bookformat.specs.declared.value.Event.{Event}
use Rattle.bookformat.specs.Values.{ChartValue, BookValue}
use Rattle.bookformat.specs.Rules.{event, no_event, listed_later}
use Rattle.bookformat.specs.Reading.{is_silent}
use Rattle.bookformat.proofs.Silence.{silent_true, silent_false}
use Rattle.paths.specs.Charts.{Working, event_stations, event_count, On, First, Last}
use Rattle.paths.specs.Datings.{KeepsChart}
use Rattle.paths.proofs.Finite.{below_suc, dec_some}

-- Lists of stations

has_head : (q p : ℕ) (qs : List ℕ) → q ≡ p → Has (q ∷ qs) p
has_head q p qs e = (0, omega arith, λ d. e)

has_tail : (q p : ℕ) (qs : List ℕ) → Has qs p → Has (q ∷ qs) p
has_tail q p qs h = (suc h.0, omega (arith, h.1), λ d. h.2 d)

has_counting : (a n p : ℕ) → a ≤ p → p < a + n → Has (range_with_len a n) p
has_counting a zero p l h = absurd (omega arith)
has_counting a (suc n) p l h = elim (ℕ_discrete a p) [
  | yes e ↦ has_head a p (range_with_len (a + 1) n) e
  | no e ↦ has_tail a p (range_with_len (a + 1) n) (has_counting (a + 1) n p (omega arith) (omega arith))
]

has_kept : (t : ℕ → Bool) (p : ℕ) → t p ≡ true → (qs : List ℕ) → Has qs p → Has (filter t qs) p
has_kept t p e [] h = absurd (omega (arith, h.1))
has_kept t p e (q ∷ qs) (zero, l, g) = go (t q) (ap t (g 0) ∙ e)
  where
    go : (v : Bool) → v ≡ true → Has (cond v (q ∷ filter t qs) (filter t qs)) p
    go true f = has_head q p (filter t qs) (g 0)
    go false f = absurd (false≢true f)
has_kept t p e (q ∷ qs) (suc k, l, g) = go (has_kept t p e qs (k, omega arith, g)) (t q)
  where
    go : Has (filter t qs) p → (v : Bool) → Has (cond v (q ∷ filter t qs) (filter t qs)) p
    go rest true = has_tail q p (filter t qs) rest
    go rest false = rest

abbrev kept : (ℕ → Bool) → ℕ → ℕ → List ℕ
kept t a n = filter t (range_with_len a n)

low : (t : ℕ → Bool) (a n k : ℕ) → k < length (kept t a n) → a ≤ get_or (kept t a n) k 0
low t a zero k h = absurd (omega arith)
low t a (suc n) k h = go (t a) (low t (a + 1) n) k h
  where
    go : (v : Bool) → ((k : ℕ) → k < length (kept t (a + 1) n) → a + 1 ≤ get_or (kept t (a + 1) n) k 0) → (k : ℕ) → k < length (cond v (a ∷ kept t (a + 1) n) (kept t (a + 1) n)) → a ≤ get_or (cond v (a ∷ kept t (a + 1) n) (kept t (a + 1) n)) k 0
    go true rest zero h = omega arith
    go true rest (suc k) h = omega (arith, rest k (omega arith))
    go false rest k h = omega (arith, rest k h)

high : (t : ℕ → Bool) (a n k : ℕ) → k < length (kept t a n) → get_or (kept t a n) k 0 < a + n
high t a zero k h = absurd (omega arith)
high t a (suc n) k h = go (t a) (high t (a + 1) n) k h
  where
    go : (v : Bool) → ((k : ℕ) → k < length (kept t (a + 1) n) → get_or (kept t (a + 1) n) k 0 < a + 1 + n) → (k : ℕ) → k < length (cond v (a ∷ kept t (a + 1) n) (kept t (a + 1) n)) → get_or (cond v (a ∷ kept t (a + 1) n) (kept t (a + 1) n)) k 0 < a + suc n
    go true rest zero h = omega arith
    go true rest (suc k) h = omega (arith, rest k (omega arith))
    go false rest k h = omega (arith, rest k h)

fewer : (t : ℕ → Bool) (a n : ℕ) → length (kept t a n) ≤ n
fewer t a zero = omega arith
fewer t a (suc n) = go (t a) (fewer t (a + 1) n)
  where
    go : (v : Bool) → length (kept t (a + 1) n) ≤ n → length (cond v (a ∷ kept t (a + 1) n) (kept t (a + 1) n)) ≤ suc n
    go true rest = omega arith
    go false rest = omega arith

rising : (t : ℕ → Bool) (a n k m : ℕ) → k < m → m < length (kept t a n) → get_or (kept t a n) k 0 < get_or (kept t a n) m 0
rising t a zero k m l h = absurd (omega arith)
rising t a (suc n) k m l h = go (t a) (rising t (a + 1) n) k m l h
  where
    go : (v : Bool) → ((k m : ℕ) → k < m → m < length (kept t (a + 1) n) → get_or (kept t (a + 1) n) k 0 < get_or (kept t (a + 1) n) m 0) → (k m : ℕ) → k < m → m < length (cond v (a ∷ kept t (a + 1) n) (kept t (a + 1) n)) → get_or (cond v (a ∷ kept t (a + 1) n) (kept t (a + 1) n)) k 0 < get_or (cond v (a ∷ kept t (a + 1) n) (kept t (a + 1) n)) m 0
    go true rest zero zero l h = absurd (omega arith)
    go true rest zero (suc m) l h = omega (arith, low t (a + 1) n m (omega arith))
    go true rest (suc k) zero l h = absurd (omega arith)
    go true rest (suc k) (suc m) l h = rest k m (omega arith) (omega arith)
    go false rest k m l h = rest k m l h

-- among f 0 … f (n - 1), the last that is p, and the first, if any

greatest : (n : ℕ) (f : ℕ → ℕ) (p : ℕ) → ((e : ℕ) × (e < n) × (f e ≡ p) × ((g : ℕ) → g < n → f g ≡ p → g ≤ e)) ⊎ ((g : ℕ) → g < n → ¬ (f g ≡ p))
greatest zero f p = inr (λ g h. absurd (omega arith))
greatest (suc n) f p = elim (ℕ_discrete (f n) p) [
  | yes e ↦ inl (n, omega arith, e, λ g h q. omega arith)
  | no e ↦ ⊎_elim
      (λ r. inl (r.0, omega (arith, r.1), r.2, below_suc (λ g. f g ≡ p → g ≤ r.0) n r.3 (λ q. absurd (e q))))
      (λ r. inr (below_suc (λ g. ¬ (f g ≡ p)) n r e))
      (greatest n f p)
]

smallest : (n : ℕ) (f : ℕ → ℕ) (p : ℕ) → ((e : ℕ) × (e < n) × (f e ≡ p) × ((g : ℕ) → g < n → f g ≡ p → e ≤ g)) ⊎ ((g : ℕ) → g < n → ¬ (f g ≡ p))
smallest zero f p = inr (λ g h. absurd (omega arith))
smallest (suc n) f p = ⊎_elim
    (λ r. inl (r.0, omega (arith, r.1), r.2, below_suc (λ g. f g ≡ p → r.0 ≤ g) n r.3 (λ q. omega (arith, r.1))))
    (λ r. elim (ℕ_discrete (f n) p) [
      | yes e ↦ inl (n, omega arith, e, below_suc (λ g. f g ≡ p → n ≤ g) n (λ g h q. absurd (r g h q)) (λ q. omega arith))
      | no e ↦ inr (below_suc (λ g. ¬ (f g ≡ p)) n r e)
    ])
    (smallest n f p)

-- The full chart

module _ (b : BookValue) (c : ChartValue) where
  abbrev working : ℕ
  working = length c.events

  abbrev stations_of : List ℕ
  stations_of = map (λ (e : Event). e.station) c.events

  abbrev silents : List ℕ
  silents = kept (is_silent c.events) 0 b.stations

  count : length stations_of ≡ working
  count = length-map c.events (λ (e : Event). e.station)

  size : event_count b c ≡ working + length silents
  size = length-append stations_of silents ∙ ap (λ (n : ℕ). n + length silents) count

  -- at most so many events
  pub count_most : event_count b c ≤ working + b.stations
  count_most = omega (arith, size, fewer (is_silent c.events) 0 b.stations)

  -- the working events are events of the full chart
  pub working_exists : (e : ℕ) → Working c e → e < event_count b c
  working_exists e h = omega (arith, size)

  pub working_station : (e : ℕ) → Working c e → get_or (event_stations b c) e 0 ≡ (event c.events e).station
  working_station e h = get_or_append_left stations_of silents 0 e (omega (arith, count)) ∙ get_or-map (λ (x : Event). x.station) c.events e no_event 0 h

  silent_station : (e : ℕ) → working ≤ e → get_or (event_stations b c) e 0 ≡ get_or silents (e - working) 0
  silent_station e h = get_or-append_right stations_of silents working e 0 count h

  -- each event is on a station of the book, if the working ones are
  pub station_exists : ((e : ℕ) → Working c e → (event c.events e).station < b.stations) → (e : ℕ) → e < event_count b c → get_or (event_stations b c) e 0 < b.stations
  station_exists good e h = elim (dec_lt e working) [
    | yes w ↦ omega (arith, working_station e w, good e w)
    | no w ↦ omega (arith, size, silent_station e (omega arith), high (is_silent c.events) 0 b.stations (e - working) (omega (arith, size)))
  ]

  -- each station has an event
  has_event : (p : ℕ) → p < b.stations → Has (event_stations b c) p
  has_event p h = elim (dec_some working (λ e. (event c.events e).station ≡ p) (λ e. ℕ_discrete (event c.events e).station p)) [
    | yes r ↦ (r.0, working_exists r.0 r.1, λ d. at r.0 r.1 d ∙ r.2)
    | no r ↦ has_append_right stations_of silents p (has_kept (is_silent c.events) p (silent_true c.events p (λ e l s. r (e, l, s))) (range_with_len 0 b.stations) (has_counting 0 b.stations p (omega arith) (omega arith)))
  ]
    where
      at : (e : ℕ) → Working c e → (d : ℕ) → get_or (event_stations b c) e d ≡ (event c.events e).station
      at e l d = get_or_append_left stations_of silents d e (omega (arith, count)) ∙ get_or-map (λ (x : Event). x.station) c.events e no_event d l

  pub last_event : (p : ℕ) → p < b.stations → (e : ℕ) × Last b c p e
  last_event p h = go (greatest (event_count b c) at p)
    where
      at : ℕ → ℕ
      at e = get_or (event_stations b c) e 0

      go : ((e : ℕ) × (e < event_count b c) × (at e ≡ p) × ((g : ℕ) → g < event_count b c → at g ≡ p → g ≤ e)) ⊎ ((g : ℕ) → g < event_count b c → ¬ (at g ≡ p)) → (e : ℕ) × Last b c p e
      go (inl r) = (r.0, record { on = record { exists = r.1; station = r.2 }; last = λ f o. r.3 f o.exists o.station })
      go (inr r) = let s = has_event p h in absurd (r s.0 s.1 (s.2 0))

  pub first_event : (p : ℕ) → p < b.stations → (e : ℕ) × First b c p e
  first_event p h = go (smallest (event_count b c) at p)
    where
      at : ℕ → ℕ
      at e = get_or (event_stations b c) e 0

      go : ((e : ℕ) × (e < event_count b c) × (at e ≡ p) × ((g : ℕ) → g < event_count b c → at g ≡ p → e ≤ g)) ⊎ ((g : ℕ) → g < event_count b c → ¬ (at g ≡ p)) → (e : ℕ) × First b c p e
      go (inl r) = (r.0, record { on = record { exists = r.1; station = r.2 }; first = λ f o. r.3 f o.exists o.station })
      go (inr r) = let s = has_event p h in absurd (r s.0 s.1 (s.2 0))

  pub one_last : (p e f : ℕ) → Last b c p e → Last b c p f → e ≡ f
  one_last p e f h g = omega (arith, h.last f g.on, g.last e h.on)

  pub one_first : (p e f : ℕ) → First b c p e → First b c p f → e ≡ f
  one_first p e f h g = omega (arith, h.first f g.on, g.first e h.on)

  -- two events of one station are working events
  both_work : (p f e : ℕ) → On b c p f → On b c p e → f < e → Working c e
  both_work p f e hf he l = elim (dec_lt e working) [
    | yes h ↦ h
    | no h ↦ absurd (beyond (omega arith) (dec_lt f working))
  ]
    where
      beyond : working ≤ e → Dec (f < working) → ⊥
      beyond h (yes g) =
          let loud : is_silent c.events p ≡ false = silent_false c.events p f g (sym (working_station f g) ∙ hf.station) in
          let passes : is_silent c.events (get_or silents (e - working) 0) ≡ true = All-get_or (λ q. is_silent c.events q ≡ true) silents (e - working) 0 (omega (arith, size, he.exists)) (kept_by_passes (is_silent c.events) (range_with_len 0 b.stations)) in
          let at : get_or silents (e - working) 0 ≡ p = sym (silent_station e h) ∙ he.station in
          false≢true (sym loud ∙ ap (is_silent c.events) (sym at) ∙ passes)
      beyond h (no g) =
          let r : get_or silents (f - working) 0 < get_or silents (e - working) 0 = rising (is_silent c.events) 0 b.stations (f - working) (e - working) (omega arith) (omega (arith, size, he.exists)) in
          omega (arith, silent_station f (omega arith), silent_station e h, hf.station, he.station)

  -- the first event of a station is dated no later than its others
  pub first_no_later : (d : ℕ → ℕ) → KeepsChart b c d → (p f e : ℕ) → First b c p f → On b c p e → d f ≤ d e
  first_no_later d h p f e hf he = elim (ℕ_discrete f e) [
    | yes q ↦ omega (arith, ap d q)
    | no q ↦
        let l : f < e = omega (arith, hf.first e he) in
        let w : Working c e = both_work p f e hf.on he l in
        h.order f e (listed_later l w (sym (working_station f (omega arith)) ∙ hf.on.station ∙ sym he.station ∙ working_station e w))
  ]
