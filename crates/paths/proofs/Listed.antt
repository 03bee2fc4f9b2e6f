-- Where the dates of a path's events stand in one list.
use Rattle.std.proofs.Common.{◌≡◌, ℕ, zero, suc, ◌+◌, ◌-◌, ◌<◌, ◌≤◌, List, length, get_or, drop, sym, ap, ◌∙◌, arith}
use native.Mathlib.Decide.{dec_lt}
use Rattle.std.proofs.lemmas.List.{ext_get_or, get_or-drop}
use Rattle.bookformat.specs.Values.{BookValue}
use Rattle.paths.specs.Datings.{EventOf, Earliest}
use Rattle.paths.specs.Listing.{events_before, events_of, written}

module _ (b : BookValue) (path : List ℕ) where
  before_grows : (k m : ℕ) → events_before b path k ≤ events_before b path (m + k)
  before_grows k zero = let e : 0 + k ≡ k = omega arith in omega (arith, ap (events_before b path) e)
  before_grows k (suc m) = let e : suc m + k ≡ suc (m + k) = omega arith in omega (arith, ap (events_before b path) e, before_grows k m)

  pub before_rises : (k m : ℕ) → k ≤ m → events_before b path k ≤ events_before b path m
  before_rises k m h = let e : m - k + k ≡ m = omega arith in omega (arith, ap (events_before b path) e, before_grows k (m - k))

  -- an event's place is among the dates of the path
  pub place_inside : (k e : ℕ) → EventOf b path k e → events_before b path k + e < events_of b path
  place_inside k e at = omega (arith, at.event, before_rises (suc k) (suc (length path)) (omega (arith, at.position)))

  -- each place below those of position m is that of an event
  place_below : (m i : ℕ) → m ≤ suc (length path) → i < events_before b path m → (k : ℕ) × (e : ℕ) × EventOf b path k e × (i ≡ events_before b path k + e)
  place_below zero i few h = absurd (omega arith)
  place_below (suc m) i few h = elim (dec_lt i (events_before b path m)) [
    | yes l ↦ place_below m i (omega arith) l
    | no l ↦ (m, i - events_before b path m, record { position = omega arith; event = omega arith }, omega arith)
  ]

  pub listed_place : (i : ℕ) → i < events_of b path → (k : ℕ) × (e : ℕ) × EventOf b path k e × (i ≡ events_before b path k + e)
  listed_place i h = place_below (suc (length path)) i (omega arith) h

  -- lists that begin with the earliest dating and go on alike are equal
  pub same_dates : (l m : List ℕ) → length l ≡ length m → Earliest b path (written b path l) → Earliest b path (written b path m) → drop (events_of b path) l ≡ drop (events_of b path) m → events_of b path ≤ length l → l ≡ m
  same_dates l m long x y rest room = ext_get_or 0 l m long at
    where
      behind : (i : ℕ) → events_of b path ≤ i → get_or l i 0 ≡ get_or m i 0
      behind i h =
          let n = events_of b path in
          let e : i ≡ n + (i - n) = omega arith in
          ap (λ j. get_or l j 0) e
          ∙ sym (get_or-drop n l (i - n) 0)
          ∙ ap (λ (t : List ℕ). get_or t (i - n) 0) rest
          ∙ get_or-drop n m (i - n) 0
          ∙ sym (ap (λ j. get_or m j 0) e)

      at : (i : ℕ) → i < length l → get_or l i 0 ≡ get_or m i 0
      at i h = elim (dec_lt i (events_of b path)) [
        | yes p ↦
            let (k, e, on, is) = listed_place i p in
            omega (arith, ap (λ j. get_or l j 0) is, ap (λ j. get_or m j 0) is, x.earliest (written b path m) y.dating k e on, y.earliest (written b path l) x.dating k e on)
        | no p ↦ behind i (omega arith)
      ]
