-- What a filled table says of a chart, and what is read out of it when it is closed.
use Rattle.std.proofs.Common.{◌≡◌, ℕ, ◌+◌, ◌*◌, ◌/◌, ◌%◌, ◌<◌, ◌≤◌, ltb, ◌⊎◌, ◌↔◌, List, length, get_or, ℤ, pos, Some, None, sym, ap, ◌∙◌, subst, inl, inr, arith}
use native.Mathlib.Nat.{div-add-mod}
use native.Mathlib.Decide.{dec_lt}
use Rattle.std.proofs.lemmas.Int.{ints}
use Rattle.std.proofs.lemmas.Nat.{div_below, mod_below}
use Rattle.bookformat.specs.declared.value.Event.{Event}
use Rattle.bookformat.specs.declared.value.Constraint.{Constraint}
use Rattle.bookformat.specs.Values.{ChartValue, BookValue}
use Rattle.bookformat.specs.declared.value.Link.{Link}
use Rattle.bookformat.specs.declared.book.Book.{Book}
use Rattle.bookformat.specs.Books.{book_value}
use Rattle.bookformat.specs.Rules.{link, GoodChart, GoodLink, GoodBook}
use Rattle.bookformat.proofs.Known.{is_good}
use Rattle.closure.specs.Tickings.{WithinTicks}
use Rattle.fullchart.specs.declared.FullChart.{FullChart}
use Rattle.fullchart.specs.Finds.{NotBelow, LastOn, IsFull}
use Rattle.paths.specs.Charts.{event_stations, event_count, Last}
use Rattle.paths.specs.Datings.{drift_of, drift, KeepsChart}
use Rattle.paths.specs.Profiles.{Lasts, Largest, WithinFar}
use Rattle.paths.specs.Tables.{Table, Says, ShortestWalks, Reads, TableDecides}
use Rattle.paths.proofs.Facts.{ChartFacts}
use Rattle.paths.proofs.Full.{last_event, working_exists}
use Rattle.steps.specs.declared.bounds.Bounds.{Bounds}
use Rattle.steps.specs.Fillings.{places, table, Blank, Adds}
use Rattle.steps.specs.Parts.{OrderKept, ConstraintsKept, Enterable, DriftsKept, entries_of}
use Rattle.steps.specs.Readings.{Readable, ProfileRead, ClosedRead}
use Rattle.profile.specs.Ranges.{InRange}
use Rattle.steps.specs.Answers.{Tidy}
use Rattle.steps.proofs.Filled.{usable_of, adds_like, adds_then}

-- the link that is read with a number
pub good_link : (b : Book) {k : ℕ} {l : Link} → l ≡ link (book_value b) k → k < length b.links.items → GoodLink (book_value b) l
good_link b {k} {l} is h = subst (GoodLink (book_value b)) (sym is) ((is_good b).links k h)

-- filled bounds say what was added
pub says : (s t : Bounds) (R K : (ℕ → ℕ) → Type 0) → Blank s → Adds s t R → ((z : ℕ → ℕ) → R z ↔ K z) → Says (places t) K (table t)
says s t R K blank adds same = record {
  own = (usable_of t).own;
  exact = λ z. (λ h. (adds.exact z).1 (blank.kept z, (same z).1 h), λ h. (same z).0 ((adds.exact z).0 h).1);
}

-- Filling

module _ {b : BookValue} {c : ChartValue} (facts : ChartFacts b c) {full : FullChart} (is : IsFull b c full) (first : ℕ) where
  pub count_is : length full.stations.items ≡ event_count b c
  count_is = ap length is.stations

  each : {n : ℕ} → GoodChart b.stations c → first + event_count b c ≤ n → (k : ℕ) → k < length c.constraints → Enterable n c.constraints first k
  each good inside k h =
      let named = facts.named k h in
      record { first_inside = omega (arith, working_exists b c _ named.0); second_inside = omega (arith, working_exists b c _ named.1); proper = good.proper k h }

  pub enterable : {n : ℕ} → GoodChart b.stations c → first + event_count b c ≤ n → {cs : List Constraint} → cs ≡ c.constraints → (k : ℕ) → k < length cs → Enterable n cs first k
  enterable {n} good inside {cs} e = subst (λ (x : List Constraint). (k : ℕ) → k < length x → Enterable n x first k) (sym e) (each good inside)

  abbrev Parts : (ℕ → ℕ) → Type 0
  Parts z = (OrderKept c.events first z × ConstraintsKept c.constraints first z) × DriftsKept b full.working (length full.stations.items) first z

  drift_is : (e f : ℕ) → drift_of b (ltb e full.working) (ltb f full.working) ≡ drift b c e f
  drift_is e f = ap (λ w. drift_of b (ltb e w) (ltb f w)) is.working

  whole : (z : ℕ → ℕ) → Parts z ↔ KeepsChart b c (λ e. z (first + e))
  whole z = (
    λ h. record {
      order = λ e f q. let r = facts.order e f q in h.0.0 e r.0 f r.1 q;
      constraints = h.0.1;
      near = λ e f p q. omega (arith, drift_is e f, h.1 e (omega (arith, count_is, working_exists b c e p)) f (omega (arith, count_is, working_exists b c f q)));
      far = λ e f p. omega (arith, drift_is e f, h.1 e (omega (arith, count_is, p.first_exists)) f (omega (arith, count_is, p.second_exists)));
    },
    λ h. ((λ e p f q d. h.order e f d, h.constraints), λ e p f q. drifts h e f (omega (arith, count_is)) (omega (arith, count_is))),
  )
    where
      drifts : KeepsChart b c (λ e. z (first + e)) → (e f : ℕ) → e < event_count b c → f < event_count b c → z (first + e) ≤ z (first + f) + drift_of b (ltb e full.working) (ltb f full.working)
      drifts h e f p q = elim (dec_lt e (length c.events)) [
        | yes u ↦ elim (dec_lt f (length c.events)) [
          | yes v ↦ omega (arith, drift_is e f, h.near e f u v)
          | no v ↦ silent (inr (omega arith))
        ]
        | no u ↦ silent (inl (omega arith))
      ]
        where
          silent : (length c.events ≤ e) ⊎ (length c.events ≤ f) → z (first + e) ≤ z (first + f) + drift_of b (ltb e full.working) (ltb f full.working)
          silent s = omega (arith, drift_is e f, h.far e f (record { first_exists = p; second_exists = q; silent = s }))

  pub chart_added : {s t u v : Bounds} {es : List Event} {cs : List Constraint} → es ≡ c.events → cs ≡ c.constraints → Adds s t (OrderKept es first) → Adds t u (ConstraintsKept cs first) → Adds u v (DriftsKept b full.working (length full.stations.items) first) → Adds s v (λ z. KeepsChart b c (λ e. z (first + e)))
  chart_added {s} {t} {u} ees ecs one two three =
      let one' = subst (λ (x : List Event). Adds s t (OrderKept x first)) ees one in
      let two' = subst (λ (x : List Constraint). Adds t u (ConstraintsKept x first)) ecs two in
      adds_like (adds_then (adds_then one' two') three) whole

-- Reading

module _ (b : BookValue) (good : GoodBook b) (c : ChartValue) (facts : ChartFacts b c) (events : List ℕ) (is : events ≡ event_stations b c) where
  lasts : (p q e f : ℕ) → LastOn events p (Some e) → LastOn events q (Some f) → Lasts b c p q e f
  lasts p q e f one two =
      let he = subst (λ (l : List ℕ). LastOn l p (Some e)) is one in
      let hf = subst (λ (l : List ℕ). LastOn l q (Some f)) is two in
      record {
        p_exists = subst (λ k. k < b.stations) he.1 (facts.station e he.0);
        q_exists = subst (λ k. k < b.stations) hf.1 (facts.station f hf.0);
        p_last = record { on = record { exists = he.0; station = he.1 }; last = λ k o. he.2 k o.exists o.station };
        q_last = record { on = record { exists = hf.0; station = hf.1 }; last = λ k o. hf.2 k o.exists o.station };
      }

  last_on : (p e : ℕ) → Last b c p e → LastOn events p (Some e)
  last_on p e h = subst (λ (l : List ℕ). LastOn l p (Some e)) (sym is) (h.on.exists, h.on.station, λ k lt at. h.last k (record { exists = lt; station = at }))

  -- a station that is not used has no event
  no_event_lem : (p : ℕ) → b.stations ≤ p → NotBelow events p (length events)
  no_event_lem p h = subst (λ (l : List ℕ). NotBelow l p (length l)) (sym is) (λ k lt at. omega (arith, facts.station k lt))

  small : (w : ℤ) → WithinFar b w → WithinTicks 10000 w
  small w h = (omega (arith, ints, h.most, good.far_most), omega (arith, ints, h.least, good.far_most))

  module _ (S : Type 0) (dates : S → ℕ → ℕ) (n first : ℕ) (A : Table) (decides : TableDecides b c S dates n first A) where
    pub readable : (D : Table) → ShortestWalks n A D → Readable D first events
    readable D walks p q e f he hf = let x = decides.readable D walks p q e f (lasts p q e f he hf) in (x.0, x.1, small x.0 x.2)

    pub no_solution : ClosedRead n A first events None → S → ⊥
    no_solution bad = decides.unsolvable bad

    module _ (a : List ℤ) (D : Table) (walks : ShortestWalks n A D) (read : ProfileRead D first events a) where
      few : (p : ℕ) → p < b.stations → p < 8
      few p h = omega (arith, good.stations_most)

      reads : Reads b c first D (entries_of a)
      reads p q e f h = (read p q (few p h.p_exists) (few q h.q_exists)).found e f (last_on p e h.p_last) (last_on q f h.q_last)

      unused : (p q : ℕ) → p < 8 → q < 8 → (b.stations ≤ p) ⊎ (b.stations ≤ q) → entries_of a p q ≡ pos 0
      unused p q hp hq (inl h) = (read p q hp hq).absent (inl (no_event_lem p h))
      unused p q hp hq (inr h) = (read p q hp hq).absent (inr (no_event_lem q h))

      nought : (w : ℤ) → w ≡ pos 0 → WithinFar b w
      nought w e = record { most = omega (arith, ints); least = omega (arith, ints) }

      within : (p q : ℕ) → p < 8 → q < 8 → WithinFar b (entries_of a p q)
      within p q hp hq = elim (dec_lt p b.stations) [
        | yes u ↦ elim (dec_lt q b.stations) [
          | yes v ↦ used u v
          | no v ↦ nought (entries_of a p q) (unused p q hp hq (inr (omega arith)))
        ]
        | no u ↦ nought (entries_of a p q) (unused p q hp hq (inl (omega arith)))
      ]
        where
          used : p < b.stations → q < b.stations → WithinFar b (entries_of a p q)
          used u v =
              let e = last_event b c p u in
              let f = last_event b c q v in
              let l : Lasts b c p q e.0 f.0 = record { p_exists = u; q_exists = v; p_last = e.1; q_last = f.1 } in
              let x = decides.readable D walks p q e.0 f.0 l in
              let s : Some x.0 ≡ Some (entries_of a p q) = sym x.1 ∙ reads p q e.0 f.0 l in
              let t : x.0 ≡ entries_of a p q = cc in
              subst (WithinFar b) t x.2

      in_range : InRange a
      in_range k h =
          let e : 8 * (k / 8) + k % 8 ≡ k = div-add-mod k 8 in
          subst (λ i. WithinTicks 10000 (get_or a i (pos 0))) e (small (entries_of a (k / 8) (k % 8)) (within (k / 8) (k % 8) (div_below k 8 8 (omega arith) (omega arith)) (mod_below k 8 (omega arith))))

      pub profile : Largest b c S dates (entries_of a) × Tidy b a
      profile = (decides.profile D walks (entries_of a) reads, record { within = within; unused = unused; in_range = in_range })
