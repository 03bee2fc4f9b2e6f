-- The tables of a good book have at most 54 places: at least two stations have working events.
use Rattle.std.proofs.Common.{◌≡◌, ℕ, zero, suc, ◌+◌, ◌<◌, ◌≤◌, Bool, true, false, cond, List, ◌∷◌, map, length, filter, sym, refl, ap, ◌∙◌, subst, arith, length-append}
use native.Mathlib.Decide.{ℕ_discrete, dec_lt}
use lib.ListN.{length-map}
use Rattle.std.specs.List.{range_with_len}
use Rattle.bookformat.specs.declared.value.Event.{Event}
use Rattle.bookformat.specs.Values.{ChartValue, BookValue}
use Rattle.bookformat.specs.Rules.{event, chart, GoodChart, GoodBook}
use Rattle.bookformat.specs.Reading.{is_silent}
use Rattle.bookformat.proofs.Silence.{silent_false}
use Rattle.paths.specs.Charts.{event_count}

abbrev kept : (ℕ → Bool) → ℕ → ℕ → List ℕ
kept t a n = filter t (range_with_len a n)

fewer : (t : ℕ → Bool) (a n : ℕ) → length (kept t a n) ≤ n
fewer t a zero = omega arith
fewer t a (suc n) = go (t a) (fewer t (a + 1) n)
  where
    go : (v : Bool) → length (kept t (a + 1) n) ≤ n → length (cond v (a ∷ kept t (a + 1) n) (kept t (a + 1) n)) ≤ suc n
    go true rest = omega arith
    go false rest = omega arith

-- one number is not kept
one_fewer : (t : ℕ → Bool) (a n q : ℕ) → a ≤ q → q < a + n → t q ≡ false → length (kept t a n) + 1 ≤ n
one_fewer t a zero q l h e = absurd (omega arith)
one_fewer t a (suc n) q l h e = elim (ℕ_discrete a q) [
  | yes s ↦ subst (λ (v : Bool). length (cond v (a ∷ kept t (a + 1) n) (kept t (a + 1) n)) + 1 ≤ suc n) (sym (ap t s ∙ e)) (omega (arith, fewer t (a + 1) n))
  | no s ↦ go (t a) (one_fewer t (a + 1) n q (omega arith) (omega arith) e)
]
  where
    go : (v : Bool) → length (kept t (a + 1) n) + 1 ≤ n → length (cond v (a ∷ kept t (a + 1) n) (kept t (a + 1) n)) + 1 ≤ suc n
    go true rest = omega arith
    go false rest = omega arith

-- two are not
two_fewer : (t : ℕ → Bool) (a n p q : ℕ) → a ≤ p → p < q → q < a + n → t p ≡ false → t q ≡ false → length (kept t a n) + 2 ≤ n
two_fewer t a zero p q l m h d e = absurd (omega arith)
two_fewer t a (suc n) p q l m h d e = elim (ℕ_discrete a p) [
  | yes s ↦ subst (λ (v : Bool). length (cond v (a ∷ kept t (a + 1) n) (kept t (a + 1) n)) + 2 ≤ suc n) (sym (ap t s ∙ d)) (omega (arith, one_fewer t (a + 1) n q (omega arith) (omega arith) e))
  | no s ↦ go (t a) (two_fewer t (a + 1) n p q (omega arith) m (omega arith) d e)
]
  where
    go : (v : Bool) → length (kept t (a + 1) n) + 2 ≤ n → length (cond v (a ∷ kept t (a + 1) n) (kept t (a + 1) n)) + 2 ≤ suc n
    go true rest = omega arith
    go false rest = omega arith

two_apart : (t : ℕ → Bool) (n p q : ℕ) → (p ≡ q → ⊥) → p < n → q < n → t p ≡ false → t q ≡ false → length (kept t 0 n) + 2 ≤ n
two_apart t n p q ne hp hq d e = elim (dec_lt p q) [
  | yes h ↦ two_fewer t 0 n p q (omega arith) h (omega arith) d e
  | no h ↦ two_fewer t 0 n q p (omega arith) (omega arith) (omega arith) e d
]

count_most : (b : BookValue) (c : ChartValue) → GoodChart b.stations c → event_count b c + 2 ≤ length c.events + b.stations
count_most b c good =
    let es = c.events in
    let paired = good.paired 0 (omega (arith, good.events_least)) in
    let other = (event es 0).pair in
    let p = (event es 0).station in
    let q = (event es other).station in
    let silents = two_apart (is_silent es) b.stations p q (λ s. paired.other_station (sym s)) (good.on_station 0 (omega (arith, good.events_least))) (good.on_station other paired.exists) (silent_false es p 0 (omega (arith, good.events_least)) refl) (silent_false es q other paired.exists refl) in
    omega (arith, length-append (map (λ (e : Event). e.station) es) (kept (is_silent es) 0 b.stations), length-map es (λ (e : Event). e.station))

-- the places of a step's table
pub places_most : (b : BookValue) → GoodBook b → (k : ℕ) → k < length b.charts → b.stations + event_count b (chart b k) ≤ 54
places_most b good k h = omega (arith, good.stations_most, (good.charts k h).events_most, count_most b (chart b k) (good.charts k h))
