-- A dating as one list of dates.
use Rattle.std.proofs.Common.{◌≡◌, ℕ, zero, suc, ◌+◌, ◌-◌, ◌*◌, ◌<◌, ◌≤◌, Bool, false, cond, ltb, List, length, get_or, sym, ap, ◌∙◌, subst, mul-le-mul_right, arith}
use native.Mathlib.Decide.{ℕ_discrete}
use Rattle.std.proofs.lemmas.Bool.{lt-ltb, le-ltb}
use Rattle.bookformat.specs.Values.{BookValue}
use Rattle.bookformat.specs.Rules.{GoodBook}
use Rattle.paths.specs.Charts.{event_count}
use Rattle.paths.specs.Paths.{chart_at}
use Rattle.paths.specs.Datings.{Dating, Datable, EventOf, Earliest}
use Rattle.paths.specs.Listing.{events_before, events_of, written}
use Rattle.paths.proofs.Existing.{earliest_exists}
use Rattle.paths.proofs.Early.{earliest_most, earliest_fits}
use Rattle.paths.proofs.Deciding.{dating_sees}
use Rattle.paths.proofs.Listed.{before_rises, place_inside, listed_place}
use Rattle.earliest.specs.Raising.{Small}
use Rattle.earliest.specs.Positions.{PathKept, Least, Settled}

-- the dates of d, one chart after the other up to position m
flat : BookValue → List ℕ → (ℕ → ℕ → ℕ) → ℕ → ℕ → ℕ
flat b path d zero i = d 0 i
flat b path d (suc m) i = cond (ltb i (events_before b path (suc m))) (flat b path d m i) (d (suc m) (i - events_before b path (suc m)))

flat_is : (b : BookValue) (path : List ℕ) (d : ℕ → ℕ → ℕ) (m k e : ℕ) → k ≤ m → e < event_count b (chart_at b path k) → flat b path d m (events_before b path k + e) ≡ d k e
unfolding flat
flat_is b path d zero k e h l =
    let z : k ≡ 0 = omega arith in
    subst (λ j. d 0 (events_before b path j + e) ≡ d j e) (sym z) (ap (d 0) (omega arith))
flat_is b path d (suc m) k e h l = elim (ℕ_discrete k (suc m)) [
  | yes is ↦
      let s = events_before b path (suc m) in
      let f : ltb (s + e) s ≡ false = le-ltb (s + e) s (omega arith) in
      let a : s + e - s ≡ e = omega arith in
      subst (λ j. cond (ltb (events_before b path j + e) s) (flat b path d m (events_before b path j + e)) (d (suc m) (events_before b path j + e - s)) ≡ d j e) (sym is)
      (ap (λ (t : Bool). cond t (flat b path d m (s + e)) (d (suc m) (s + e - s))) f ∙ ap (d (suc m)) a)
  | no ne ↦
      let s = events_before b path (suc m) in
      let less : events_before b path k + e < s = omega (arith, before_rises b path (suc k) (suc m) (omega arith)) in
      ap (λ (t : Bool). cond t (flat b path d m (events_before b path k + e)) (d (suc m) (events_before b path k + e - s))) (lt-ltb (events_before b path k + e) s less) ∙ flat_is b path d m k e (omega arith) l
]

module _ (b : BookValue) (good : GoodBook b) (path : List ℕ) where
  abbrev listed : (ℕ → ℕ → ℕ) → ℕ → ℕ
  listed d = flat b path d (length path)

  listed_is : (d : ℕ → ℕ → ℕ) (k e : ℕ) → EventOf b path k e → listed d (events_before b path k + e) ≡ d k e
  listed_is d k e at = flat_is b path d (length path) k e at.position at.event

  listed_kept : (d : ℕ → ℕ → ℕ) → Dating b path d → PathKept b path (listed d)
  listed_kept d h = dating_sees b good path d (λ k e. listed d (events_before b path k + e)) (λ k e at. sym (listed_is d k e at)) h

  -- dates that are below those of every dating are below the earliest
  module _ (datable : Datable b path) (l : List ℕ) (long : length l ≡ events_of b path) (least : Least b path l) (k : ℕ) (h : k < length l) where
    below_earliest : (d : ℕ → ℕ → ℕ) × (i : ℕ) × (f : ℕ) × Earliest b path d × EventOf b path i f × (get_or l k 0 ≤ d i f)
    below_earliest =
        let (d, early) = earliest_exists b good path datable in
        let (i, f, at, is) = listed_place b path k (omega arith) in
        (d, i, f, early, at, omega (arith, least (listed d) (listed_kept d early.dating) k h, ap (listed d) is, listed_is d i f at))

    -- and so not past all earliest dates
    pub not_past : get_or l k 0 ≤ length path * (10000 + b.far) + b.far
    not_past =
        let (d, i, f, early, at, below) = below_earliest in
        omega (arith, earliest_most b good path d early i f at, mul-le-mul_right (10000 + b.far) at.position)

    small_below : length path ≤ 4095 → get_or l k 0 ≤ 81910000
    small_below few =
        let (d, i, f, early, at, below) = below_earliest in
        omega (arith, earliest_fits b good path d early (omega arith) i f at)

  pub dates_small : Datable b path → length path ≤ 4095 → (l : List ℕ) → length l ≡ events_of b path → Least b path l → Small l
  dates_small datable few l long least k h = small_below datable l long least k h few

  -- dates in a longer list that begins with settled ones
  pub earliest_is : (l m : List ℕ) → length l ≡ events_of b path → Settled b path l → ((k : ℕ) → k < length l → get_or m k 0 ≡ get_or l k 0) → Earliest b path (written b path m)
  earliest_is l m long s same = record {
    dating = dating_sees b good path (written b path l) (written b path m) (λ k e at. sym (same (events_before b path k + e) (inside k e at))) s.kept;
    earliest = λ d h k e at. omega (arith, same (events_before b path k + e) (inside k e at), s.least (listed d) (listed_kept d h) (events_before b path k + e) (inside k e at), listed_is d k e at);
  }
    where
      inside : (k e : ℕ) → EventOf b path k e → events_before b path k + e < length l
      inside k e at = omega (arith, place_inside b path k e at)
