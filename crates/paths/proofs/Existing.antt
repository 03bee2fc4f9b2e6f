-- A path that can be dated has a profile and an earliest dating.
use Rattle.std.proofs.Common.{◌≡◌, ℕ, zero, suc, ◌+◌, ◌-◌, ◌*◌, ◌/◌, ◌%◌, ◌<◌, ◌≤◌, min, List, length, ℤ, pos, ◌-ℤ◌, ◌≤ℤ◌, sym, refl, ap, ◌∙◌, subst, subst₂, arith}
use mathlib.Core.Path.{fun_ext}
use native.Mathlib.Decide.{ℕ_discrete, dec_lt}
use Rattle.std.proofs.lemmas.Int.{ints}
use Rattle.bookformat.specs.Values.{BookValue}
use Rattle.bookformat.specs.Rules.{GoodBook}
use Rattle.paths.specs.Charts.{event_count, Last}
use Rattle.paths.specs.Paths.{chart_number, chart_at, last_chart}
use Rattle.paths.specs.Datings.{Dating, Datable, EventOf, Earliest}
use Rattle.paths.specs.Profiles.{difference, Lasts, Profile}
use Rattle.paths.proofs.Finite.{below_suc, dec_some, dec_both, dec_like}
use Rattle.paths.proofs.Full.{last_event, one_last}
use Rattle.paths.proofs.Facts.{chart_facts, spread}
use Rattle.paths.proofs.Levels.{minimum}
use Rattle.paths.proofs.Early.{lowered}
use Rattle.paths.proofs.Deciding.{dating_sees, dec_dating}

-- Trying all dates within bounds

pick : {A : Type 0} → Dec A → ℕ → ℕ → ℕ
pick (yes p) u v = u
pick (no p) u v = v

pick_yes : {A : Type 0} (c : Dec A) (u v : ℕ) → A → pick c u v ≡ u
unfolding pick
pick_yes (yes p) u v h = refl
pick_yes (no p) u v h = absurd (p h)

pick_no : {A : Type 0} (c : Dec A) (u v : ℕ) → ¬ A → pick c u v ≡ v
unfolding pick
pick_no (yes p) u v h = absurd (h p)
pick_no (no p) u v h = refl

-- dates below n within u, and the dates base from n on
abbrev Bounded : ℕ → (ℕ → ℕ) → (ℕ → ℕ) → ((ℕ → ℕ) → Type 0) → Type 0
Bounded n u base K = (g : ℕ → ℕ) × ((k : ℕ) → k < n → g k ≤ u k) × ((k : ℕ) → n ≤ k → g k ≡ base k) × K g

put : (ℕ → ℕ) → ℕ → ℕ → ℕ → ℕ
put base n v k = pick (ℕ_discrete k n) v (base k)

put_at : (base : ℕ → ℕ) (n v k : ℕ) → k ≡ n → put base n v k ≡ v
unfolding put
put_at base n v k h = pick_yes (ℕ_discrete k n) v (base k) h

put_off : (base : ℕ → ℕ) (n v k : ℕ) → ¬ (k ≡ n) → put base n v k ≡ base k
unfolding put
put_off base n v k h = pick_no (ℕ_discrete k n) v (base k) h

try_all : (n : ℕ) (u : ℕ → ℕ) (K : (ℕ → ℕ) → Type 0) → ((g : ℕ → ℕ) → Dec (K g)) → (base : ℕ → ℕ) → Dec (Bounded n u base K)
try_all zero u K dec base = elim (dec base) [
  | yes h ↦ yes (base, λ k l. absurd (omega arith), λ k l. refl, h)
  | no h ↦ no (λ r. h (subst K (fun_ext (λ k. r.2 k (omega arith))) r.3))
]
try_all (suc n) u K dec base = go (dec_some (suc (u n)) (λ v. Bounded n u (put base n v) K) (λ v. try_all n u K dec (put base n v)))
  where
    go : Dec ((v : ℕ) × (v < suc (u n)) × Bounded n u (put base n v) K) → Dec (Bounded (suc n) u base K)
    go (yes (v, l, (g, low, rest, kept))) = yes (
      g,
      below_suc (λ k. g k ≤ u k) n low (omega (arith, rest n (omega arith), put_at base n v n refl)),
      λ k h. rest k (omega arith) ∙ put_off base n v k (omega arith),
      kept,
    )
    go (no none) = no (λ r.
        let g : ℕ → ℕ = r.0 in
        none (g n, omega (arith, r.1 n (omega arith)), (g, λ k l. r.1 k (omega arith), λ k l. at r k l (ℕ_discrete k n), r.3)))
      where
        at : (r : Bounded (suc n) u base K) → (k : ℕ) → n ≤ k → Dec (k ≡ n) → r.0 k ≡ put base n (r.0 n) k
        at r k l (yes e) = ap r.0 e ∙ sym (put_at base n (r.0 n) k e)
        at r k l (no e) = r.2 k (omega arith) ∙ sym (put_off base n (r.0 n) k e)

-- among the numbers below n that pass, the largest, and the smallest

largest : (n : ℕ) (A : ℕ → Type 0) → ((k : ℕ) → Dec (A k)) → (k : ℕ) → k < n → A k → (m : ℕ) × (m < n) × A m × ((j : ℕ) → j < n → A j → j ≤ m)
largest zero A dec k l a = absurd (omega arith)
largest (suc n) A dec k l a = elim (dec n) [
  | yes h ↦ (n, omega arith, h, λ j q b. omega arith)
  | no h ↦
      let below : k < n = elim (ℕ_discrete k n) [ yes e ↦ absurd (h (subst A e a)) | no e ↦ omega arith ] in
      let r = largest n A dec k below a in
      (r.0, omega (arith, r.1), r.2, below_suc (λ j. A j → j ≤ r.0) n r.3 (λ b. absurd (h b)))
]

smallest : (n : ℕ) (A : ℕ → Type 0) → ((k : ℕ) → Dec (A k)) → (k : ℕ) → k < n → A k → (m : ℕ) × A m × ((j : ℕ) → j < n → A j → m ≤ j)
smallest zero A dec k l a = absurd (omega arith)
smallest (suc n) A dec k l a = go (dec_some n A dec) (λ j h b. smallest n A dec j h b)
  where
    go : Dec ((j : ℕ) × (j < n) × A j) → ((j : ℕ) → j < n → A j → (m : ℕ) × A m × ((i : ℕ) → i < n → A i → m ≤ i)) → (m : ℕ) × A m × ((j : ℕ) → j < suc n → A j → m ≤ j)
    go (yes (j, h, b)) rest =
        let r = rest j h b in
        (r.0, r.1, below_suc (λ i. A i → r.0 ≤ i) n r.2 (λ c. omega (arith, r.2 j h b)))
    go (no none) rest =
        let e : k ≡ n = elim (ℕ_discrete k n) [ yes e ↦ e | no e ↦ absurd (none (k, omega arith, a)) ] in
        (n, subst A e a, below_suc (λ i. A i → n ≤ i) n (λ i h b. absurd (none (i, h, b))) (λ b. omega arith))

-- The dates of a path, numbered: 48 places for each chart

abbrev unrolled : (ℕ → ℕ) → ℕ → ℕ → ℕ
unrolled g k e = g (k * 48 + e)

module _ (b : BookValue) (good : GoodBook b) (path : List ℕ) where
  abbrev places : ℕ
  places = suc (length path) * 48

  -- the number of an event
  record At (k e : ℕ) : Type 0 where
    inside : k * 48 + e < places
    position : (k * 48 + e) / 48 ≡ k
    event : (k * 48 + e) % 48 ≡ e

  at : (k e : ℕ) → EventOf b path k e → At k e
  at k e h =
      let few : event_count b (chart_at b path k) ≤ 48 = (chart_facts b good (chart_number b path k)).count in
      let small : e < 48 = omega (arith, h.event) in
      let on : k ≤ length path = h.position in
      record { inside = omega arith; position = omega arith; event = omega arith }

  module _ (u : ℕ → ℕ → ℕ) (R : (ℕ → ℕ → ℕ) → Type 0) (dec : (d : ℕ → ℕ → ℕ) → Dec (R d)) (sees : (d d' : ℕ → ℕ → ℕ) → ((k e : ℕ) → EventOf b path k e → d k e ≡ d' k e) → R d → R d') where
    -- a dating within u of which R holds
    abbrev Found : Type 0
    Found = (d : ℕ → ℕ → ℕ) × Dating b path d × ((k e : ℕ) → EventOf b path k e → d k e ≤ u k e) × R d

    numbered : (ℕ → ℕ → ℕ) → ℕ → ℕ
    numbered d j = pick (dec_lt j places) (min (d (j / 48) (j % 48)) (u (j / 48) (j % 48))) 0

    numbered_at : (d : ℕ → ℕ → ℕ) → ((k e : ℕ) → EventOf b path k e → d k e ≤ u k e) → (k e : ℕ) → EventOf b path k e → d k e ≡ unrolled (numbered d) k e
    unfolding numbered
    numbered_at d low k e h =
        let n = at k e h in
        let j : ℕ = k * 48 + e in
        let same : min (d (j / 48) (j % 48)) (u (j / 48) (j % 48)) ≡ min (d k e) (u k e) = λ i. min (d (n.position i) (n.event i)) (u (n.position i) (n.event i)) in
        omega (arith, low k e h, same, pick_yes (dec_lt j places) (min (d (j / 48) (j % 48)) (u (j / 48) (j % 48))) 0 n.inside)

    find : Dec Found
    unfolding numbered
    find = go (try_all places (λ j. u (j / 48) (j % 48)) (λ g. Dating b path (unrolled g) × R (unrolled g)) (λ g. dec_both (Dating b path (unrolled g)) (R (unrolled g)) (dec_dating b good path (unrolled g)) (dec (unrolled g))) (λ j. 0))
      where
        go : Dec (Bounded places (λ j. u (j / 48) (j % 48)) (λ j. 0) (λ g. Dating b path (unrolled g) × R (unrolled g))) → Dec Found
        go (yes (g, low, rest, kept)) = yes (
          unrolled g,
          kept.0,
          λ k e h.
              let n = at k e h in
              subst₂ (λ (p q : ℕ). g (k * 48 + e) ≤ u p q) n.position n.event (low (k * 48 + e) n.inside),
          kept.1,
        )
        go (no none) = no (λ r. none (
          numbered r.0,
          λ j l. inside r.0 j l,
          λ j l. pick_no (dec_lt j places) (min (r.0 (j / 48) (j % 48)) (u (j / 48) (j % 48))) 0 (omega arith),
          (dating_sees b good path r.0 (unrolled (numbered r.0)) (numbered_at r.0 r.2) r.1, sees r.0 (unrolled (numbered r.0)) (numbered_at r.0 r.2) r.3),
        ))
          where
            inside : (d : ℕ → ℕ → ℕ) (j : ℕ) → j < places → numbered d j ≤ u (j / 48) (j % 48)
            inside d j l = omega (arith, pick_yes (dec_lt j places) (min (d (j / 48) (j % 48)) (u (j / 48) (j % 48))) 0 l)

  -- The profile

  module _ (dated : Datable b path) (p q e f : ℕ) (lasts : Lasts b (last_chart b path) p q e f) where
    abbrev n : ℕ
    n = length path

    e_at : EventOf b path n e
    e_at = record { position = omega arith; event = lasts.p_last.on.exists }

    f_at : EventOf b path n f
    f_at = record { position = omega arith; event = lasts.q_last.on.exists }

    -- the last dates differ by v less far
    abbrev Differ : ℕ → (ℕ → ℕ → ℕ) → Type 0
    Differ v d = d n e + b.far ≡ d n f + v

    abbrev limits : ℕ → ℕ → ℕ
    limits k i = k * (10000 + b.far) + b.far

    differ_sees : (v : ℕ) (d d' : ℕ → ℕ → ℕ) → ((k i : ℕ) → EventOf b path k i → d k i ≡ d' k i) → Differ v d → Differ v d'
    differ_sees v d d' same h = omega (arith, same n e e_at, same n f f_at)

    -- each dating has one of these differences, and some dating within the limits has the same
    from_dating : (d : ℕ → ℕ → ℕ) → Dating b path d → (v : ℕ) × (v < suc (b.far + b.far)) × Differ v d × Found limits (Differ v) (λ d₁. ℕ_discrete (d₁ n e + b.far) (d₁ n f + v)) (differ_sees v)
    from_dating d h =
        let near : d n e ≤ d n f + b.far = spread b good (last_chart b path) (d n) (h.charts n (omega arith)) e f e_at.event f_at.event in
        let near' : d n f ≤ d n e + b.far = spread b good (last_chart b path) (d n) (h.charts n (omega arith)) f e f_at.event e_at.event in
        let v : ℕ = d n e + b.far - d n f in
        let r = lowered b good path d h in
        (v, omega arith, omega arith, (r.0, r.1, r.2, omega (arith, r.4 e e_at.event, r.4 f f_at.event)))

    entry : (w : ℤ) × ((s : Datable b path) → difference (s.0 n e) (s.0 n f) ≤ℤ w) × (s : Datable b path) × (difference (s.0 n e) (s.0 n f) ≡ w)
    entry =
        let r = from_dating dated.0 dated.1 in
        let m = largest (suc (b.far + b.far)) (λ v. Found limits (Differ v) (λ d. ℕ_discrete (d n e + b.far) (d n f + v)) (differ_sees v))
        (λ v. find limits (Differ v) (λ d. ℕ_discrete (d n e + b.far) (d n f + v)) (differ_sees v)) r.0 r.1 r.3 in
        let v : ℕ = m.0 in
        let d : ℕ → ℕ → ℕ = m.2.0 in
        let is : d n e + b.far ≡ d n f + v = m.2.3 in (
          pos v -ℤ pos b.far,
          λ s. let t = from_dating s.0 s.1 in most (s.0 n e) (s.0 n f) t.0 v t.2 (m.3 t.0 t.1 t.3),
          (d, m.2.1),
          equal (d n e) (d n f) v is,
        )
      where
        most : (x y t v : ℕ) → x + b.far ≡ y + t → t ≤ v → difference x y ≤ℤ (pos v -ℤ pos b.far)
        most x y t v h l = omega (arith, ints)

        equal : (x y v : ℕ) → x + b.far ≡ y + v → difference x y ≡ pos v -ℤ pos b.far
        equal x y v h = omega (arith, ints)

  pub profile_exists : Datable b path → (P : ℕ → ℕ → ℤ) × Profile b path P
  profile_exists dated = (P, record { bounds = bounds; reached = reached })
    where
      last : (p : ℕ) → p < b.stations → (e : ℕ) × Last b (last_chart b path) p e
      last = last_event b (last_chart b path)

      ends : (p q : ℕ) (hp : p < b.stations) (hq : q < b.stations) → Lasts b (last_chart b path) p q (last p hp).0 (last q hq).0
      ends p q hp hq = record { p_exists = hp; q_exists = hq; p_last = (last p hp).1; q_last = (last q hq).1 }

      value : (p q : ℕ) → Dec (p < b.stations) → Dec (q < b.stations) → ℤ
      value p q (yes hp) (yes hq) = (entry dated p q (last p hp).0 (last q hq).0 (ends p q hp hq)).0
      value p q (yes hp) (no hq) = pos 0
      value p q (no hp) c = pos 0

      P : ℕ → ℕ → ℤ
      P p q = value p q (dec_lt p b.stations) (dec_lt q b.stations)

      -- the entry, at the events that are handed in
      Is : ℕ → ℕ → ℤ → Type 0
      Is e f w = ((s : Datable b path) → difference (s.0 (length path) e) (s.0 (length path) f) ≤ℤ w) × (s : Datable b path) × (difference (s.0 (length path) e) (s.0 (length path) f) ≡ w)

      valued : (p q e f : ℕ) (cp : Dec (p < b.stations)) (cq : Dec (q < b.stations)) → Lasts b (last_chart b path) p q e f → Is e f (value p q cp cq)
      valued p q e f (yes hp) (yes hq) h =
          let r = entry dated p q (last p hp).0 (last q hq).0 (ends p q hp hq) in
          subst₂ (λ (x y : ℕ). Is x y r.0) (one_last b (last_chart b path) p (last p hp).0 e (last p hp).1 h.p_last) (one_last b (last_chart b path) q (last q hq).0 f (last q hq).1 h.q_last) (r.1, r.2, r.3)
      valued p q e f (yes hp) (no hq) h = absurd (hq h.q_exists)
      valued p q e f (no hp) c h = absurd (hp h.p_exists)

      bounds : (p q e f : ℕ) → Lasts b (last_chart b path) p q e f → (s : Datable b path) → difference (s.0 (length path) e) (s.0 (length path) f) ≤ℤ P p q
      bounds p q e f h = (valued p q e f (dec_lt p b.stations) (dec_lt q b.stations) h).0

      reached : (p q e f : ℕ) → Lasts b (last_chart b path) p q e f → (s : Datable b path) × (difference (s.0 (length path) e) (s.0 (length path) f) ≡ P p q)
      reached p q e f h = let r = valued p q e f (dec_lt p b.stations) (dec_lt q b.stations) h in (r.1, r.2)

  -- The earliest dating

  -- the event at place j has no earlier date in any dating
  abbrev EarliestAt : (ℕ → ℕ → ℕ) → ℕ → Type 0
  EarliestAt d j = (d' : ℕ → ℕ → ℕ) → Dating b path d' → EventOf b path (j / 48) (j % 48) → d (j / 48) (j % 48) ≤ d' (j / 48) (j % 48)

  module _ (d₀ : ℕ → ℕ → ℕ) (h₀ : Dating b path d₀) (k e : ℕ) (on : EventOf b path k e) where
    abbrev Dates : ℕ → (ℕ → ℕ → ℕ) → Type 0
    Dates v d = d k e ≡ v

    dates_sees : (v : ℕ) (d d' : ℕ → ℕ → ℕ) → ((i j : ℕ) → EventOf b path i j → d i j ≡ d' i j) → Dates v d → Dates v d'
    dates_sees v d d' same h = sym (same k e on) ∙ h

    -- a dating in which the event is earliest
    soonest : (d : ℕ → ℕ → ℕ) × Dating b path d × ((d' : ℕ → ℕ → ℕ) → Dating b path d' → d k e ≤ d' k e)
    soonest =
        let m = smallest (suc (d₀ k e)) (λ v. Found d₀ (Dates v) (λ d. ℕ_discrete (d k e) v) (dates_sees v)) (λ v. find d₀ (Dates v) (λ d. ℕ_discrete (d k e) v) (dates_sees v)) (d₀ k e) (omega arith) (d₀, h₀, λ i j o. omega arith, refl) in (
          m.1.0,
          m.1.1,
          λ d' h'.
              let both : ℕ → ℕ → ℕ = λ i j. min (d₀ i j) (d' i j) in
              let low : m.0 ≤ min (d₀ k e) (d' k e) = m.2 (min (d₀ k e) (d' k e)) (omega arith) (both, minimum b path d₀ d' h₀ h', λ i j o. omega arith, refl) in
              omega (arith, m.1.3),
        )

  dec_event : (k e : ℕ) → Dec (EventOf b path k e)
  dec_event k e = dec_like ((k < suc (length path)) × (e < event_count b (chart_at b path k))) (EventOf b path k e)
      (λ h. record { position = omega (arith, h.0); event = h.1 })
      (λ h. (omega (arith, h.position), h.event))
      (dec_both (k < suc (length path)) (e < event_count b (chart_at b path k)) (dec_lt k (suc (length path))) (dec_lt e (event_count b (chart_at b path k))))

  -- one place after the other
  up_to : (m : ℕ) → Datable b path → (d : ℕ → ℕ → ℕ) × Dating b path d × ((j : ℕ) → j < m → EarliestAt d j)
  up_to zero dated = (dated.0, dated.1, λ j l. absurd (omega arith))
  up_to (suc m) dated = go (up_to m dated) (dec_event (m / 48) (m % 48))
    where
      go : ((d : ℕ → ℕ → ℕ) × Dating b path d × ((j : ℕ) → j < m → EarliestAt d j)) → Dec (EventOf b path (m / 48) (m % 48)) → (d : ℕ → ℕ → ℕ) × Dating b path d × ((j : ℕ) → j < suc m → EarliestAt d j)
      go (d, h, early) (no off) = (d, h, below_suc (EarliestAt d) m early (λ d' h' on. absurd (off on)))
      go (d, h, early) (yes on) =
          let s = soonest d h (m / 48) (m % 48) on in
          let both : ℕ → ℕ → ℕ = λ i j. min (d i j) (s.0 i j) in (
            both,
            minimum b path d s.0 h s.1,
            below_suc (EarliestAt both) m
                (λ j l d' h' o. omega (arith, early j l d' h' o))
                (λ d' h' o. omega (arith, s.2 d' h')),
          )

  pub earliest_exists : Datable b path → (d : ℕ → ℕ → ℕ) × Earliest b path d
  earliest_exists dated =
      let r = up_to places dated in (
        r.0,
        record {
          dating = r.1;
          earliest = λ d' h' k e on.
              let n = at k e on in
              let j : ℕ = k * 48 + e in
              subst₂ (λ (x y : ℕ). r.0 x y ≤ d' x y) n.position n.event (r.2 j n.inside d' h' (subst₂ (EventOf b path) (sym n.position) (sym n.event) on));
        },
      )
