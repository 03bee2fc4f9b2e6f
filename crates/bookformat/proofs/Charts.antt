-- A chart at a place: its tests, its bytes and its rules.
use Rattle.std.proofs.Common.{◌≡◌, ℕ, ◌+◌, ◌*◌, ◌%◌, ◌<◌, ◌≤◌, Bool, eqb, leb, ◌⊎◌, List, [], ◌∷◌, ◌++◌, length, get_or, None, sym, refl, ap, ◌∙◌, subst, inl, inr, ⊎_elim, arith}
use Rattle.std.proofs.lemmas.List.{append-nil, length-append}
use Rattle.std.proofs.lemmas.Bool.{leb-true, le-leb, ltb-true, lt-ltb, eqb-true, eq-eqb, and_parts, and_from, or_cases, or_left, or_right}
use Rattle.bookformat.specs.declared.value.Event.{Event}
use Rattle.bookformat.specs.declared.value.Constraint.{Constraint}
use Rattle.bookformat.specs.Values.{ChartValue}
use Rattle.bookformat.specs.Encoding.{joined, final_byte, event_bytes, constraint_bytes, chart_bytes}
use Rattle.bookformat.specs.Rules.{event, no_event, no_constraint, DirectlyBefore, Proper, GoodChart}
use Rattle.bookformat.specs.Layout.{byte, event_at, constraint_at, records, events_at, constraints_place, chart_at}
use Rattle.bookformat.specs.Reading.{Test, first_fault, between, head_tests, event_tests, pair_tests, constraint_tests, chart_events, chart_pairs, chart_constraints, order_tests, chart_tests}
use Rattle.bookformat.specs.Laws.{Octets}
use Rattle.bookformat.proofs.Faults.{none_left, none_right, none_join, each_none, each_at, Passes, passes, passed}
use Rattle.bookformat.proofs.Parts.{Starts, starts_cons, starts_head, starts_tail, starts_join}
use Rattle.bookformat.proofs.Orders.{decides_acyclic}
use Rattle.bookformat.proofs.Tests.{decides_before, decides_paired, decides_proper}
use Rattle.bookformat.proofs.Records.{final_bytes, final_most, final_read, event_starts, event_read, event_kind, constraint_starts, constraint_read, length_joined, records_starts, records_length, records_places, records_read, records_at, records_count}

abbrev constraints_at : List ℕ → ℕ → List Constraint
constraints_at b i = records (constraint_at b) 6 (constraints_place b i) (byte b (i + 1))

-- the tests of event k, of its pairing and of constraint k
abbrev of_event : List ℕ → ℕ → ℕ → ℕ → List Test
of_event b stations i k = event_tests b stations (byte b i) (i + 3 + 3 * k)

abbrev of_pair : List ℕ → ℕ → ℕ → List Test
of_pair b i = pair_tests (events_at b i) (i + 3)

abbrev of_constraint : List ℕ → ℕ → ℕ → List Test
of_constraint b i k = constraint_tests b (events_at b i) (constraints_place b i + 6 * k)

-- every test of the chart holds
pub record ChartPasses (b : List ℕ) (stations i : ℕ) : Type 0 where
  pub head : Passes (head_tests b i)
  pub events : (k : ℕ) → k < byte b i → Passes (of_event b stations i k)
  pub pairs : (k : ℕ) → k < byte b i → Passes (of_pair b i k)
  pub constraints : (k : ℕ) → k < byte b (i + 1) → Passes (of_constraint b i k)
  pub order : Passes (order_tests (events_at b i) i)

module _ (b : List ℕ) (stations i : ℕ) where
  -- the tests from the pairings on, and from the events on
  abbrev from_constraints : List Test
  from_constraints = chart_constraints b i ++ order_tests (events_at b i) i

  abbrev from_pairs : List Test
  from_pairs = chart_pairs b i ++ from_constraints

  abbrev from_events : List Test
  from_events = chart_events b stations i ++ from_pairs

  pub chart_passes : first_fault (chart_tests b stations i) ≡ None → ChartPasses b stations i
  chart_passes none =
      let events = none_right (head_tests b i) from_events none in
      let pairs = none_right (chart_events b stations i) from_pairs events in
      let constraints = none_right (chart_pairs b i) from_constraints pairs in
      record {
        head = passes (head_tests b i) (none_left (head_tests b i) from_events none);
        events = λ k h. passes (of_event b stations i k) (each_at (of_event b stations i) (byte b i) k (none_left (chart_events b stations i) from_pairs events) h);
        pairs = λ k h. passes (of_pair b i k) (each_at (of_pair b i) (byte b i) k (none_left (chart_pairs b i) from_constraints pairs) h);
        constraints = λ k h. passes (of_constraint b i k) (each_at (of_constraint b i) (byte b (i + 1)) k (none_left (chart_constraints b i) (order_tests (events_at b i) i) constraints) h);
        order = passes (order_tests (events_at b i) i) (none_right (chart_constraints b i) (order_tests (events_at b i) i) constraints);
      }

  pub chart_passed : ChartPasses b stations i → first_fault (chart_tests b stations i) ≡ None
  chart_passed p =
      none_join (head_tests b i) from_events (passed (head_tests b i) p.head)
      (none_join (chart_events b stations i) from_pairs (each_none (of_event b stations i) (byte b i) (λ k h. passed (of_event b stations i k) (p.events k h)))
      (none_join (chart_pairs b i) from_constraints (each_none (of_pair b i) (byte b i) (λ k h. passed (of_pair b i k) (p.pairs k h)))
      (none_join (chart_constraints b i) (order_tests (events_at b i) i) (each_none (of_constraint b i) (byte b (i + 1)) (λ k h. passed (of_constraint b i k) (p.constraints k h)))
      (passed (order_tests (events_at b i) i) p.order))))

-- what the tests of a head and of an event say

record HeadFacts (b : List ℕ) (i : ℕ) : Type 0 where
  lies : i + 3 ≤ length b
  least : 2 ≤ byte b i
  most : byte b i ≤ 40
  even : byte b i % 2 ≡ 0
  constraints : byte b (i + 1) ≤ 64
  final : byte b (i + 2) ≤ 1

head_facts : (b : List ℕ) (i : ℕ) → Passes (head_tests b i) → HeadFacts b i
head_facts b i p =
    let n = byte b i in
    let q = and_parts (between 2 40 n) (eqb (n % 2) 0) p.1.0 in
    let r = and_parts (leb 2 n) (leb n 40) q.0 in
    record { lies = leb-true (i + 3) (length b) p.0; least = leb-true 2 n r.0; most = leb-true n 40 r.1; even = eqb-true (n % 2) 0 q.1; constraints = leb-true (byte b (i + 1)) 64 p.1.1.0; final = leb-true (byte b (i + 2)) 1 p.1.1.1.0 }

head_tests_lem : (b : List ℕ) (i : ℕ) → HeadFacts b i → Passes (head_tests b i)
head_tests_lem b i f =
    let n = byte b i in (
      le-leb (i + 3) (length b) f.lies,
      (
        and_from (between 2 40 n) (eqb (n % 2) 0) (and_from (leb 2 n) (leb n 40) (le-leb 2 n f.least) (le-leb n 40 f.most)) (eq-eqb (n % 2) 0 f.even),
        (
          le-leb (byte b (i + 1)) 64 f.constraints,
          (le-leb (byte b (i + 2)) 1 f.final, tt),
        ),
      ),
    )

record EventFacts (b : List ℕ) (stations events i : ℕ) : Type 0 where
  lies : i + 3 ≤ length b
  station : byte b i < stations
  kind : (byte b (i + 1) ≡ 0x21) ⊎ (byte b (i + 1) ≡ 0x3f)
  pair : byte b (i + 2) < events

event_facts : (b : List ℕ) (stations events i : ℕ) → Passes (event_tests b stations events i) → EventFacts b stations events i
event_facts b stations events i p =
    record {
      lies = leb-true (i + 3) (length b) p.0;
      station = ltb-true (byte b i) stations p.1.0;
      kind = ⊎_elim (λ e. inl (eqb-true (byte b (i + 1)) 0x21 e)) (λ e. inr (eqb-true (byte b (i + 1)) 0x3f e)) (or_cases (eqb (byte b (i + 1)) 0x21) (eqb (byte b (i + 1)) 0x3f) p.1.1.0);
      pair = ltb-true (byte b (i + 2)) events p.1.1.1.0;
    }

event_tests_lem : (b : List ℕ) (stations events i : ℕ) → EventFacts b stations events i → Passes (event_tests b stations events i)
event_tests_lem b stations events i f =
    let k = byte b (i + 1) in (
      le-leb (i + 3) (length b) f.lies,
      (
        lt-ltb (byte b i) stations f.station,
        (
          ⊎_elim (λ e. or_left (eqb k 0x21) (eqb k 0x3f) (eq-eqb k 0x21 e)) (λ e. or_right (eqb k 0x21) (eqb k 0x3f) (eq-eqb k 0x3f e)) f.kind,
          (lt-ltb (byte b (i + 2)) events f.pair, tt),
        ),
      ),
    )

-- the chart's bytes from its tests

pub length_chart : (c : ChartValue) → length (chart_bytes c) ≡ 3 + 3 * length c.events + 6 * length c.constraints
length_chart c =
    let es = joined event_bytes c.events in
    let cs = joined constraint_bytes c.constraints in
    let a = length-append es cs in
    let e = length_joined event_bytes 3 no_event c.events (λ k h. refl) in
    let f = length_joined constraint_bytes 6 no_constraint c.constraints (λ k h. refl) in
    omega arith

pub chart_starts : (b : List ℕ) (stations i : ℕ) → Octets b → ChartPasses b stations i → Starts b i (chart_bytes (chart_at b i))
chart_starts b stations i o p =
    let head = head_facts b i p.head in
    let n = byte b i in
    let m = byte b (i + 1) in
    let es = joined event_bytes (events_at b i) in
    let cs = joined constraint_bytes (constraints_at b i) in
    let final = final_byte (eqb (byte b (i + 2)) 1) in
    let long : length es ≡ 3 * n = records_length event_bytes (event_at b) 3 (i + 3) n (λ k h. refl) in
    let events : Starts b (i + 3) es =
    records_starts b event_bytes (event_at b) 3 (i + 3) n head.lies (λ k h. refl)
    (λ k h. let f = event_facts b stations n (i + 3 + 3 * k) (p.events k h) in event_starts b (i + 3 + 3 * k) f.lies f.kind) in
    let constraints : Starts b (constraints_place b i) cs =
    records_starts b constraint_bytes (constraint_at b) 6 (constraints_place b i) m (omega (arith, events.within)) (λ k h. refl)
    (λ k h. constraint_starts b (constraints_place b i + 6 * k) o (leb-true (constraints_place b i + 6 * k + 6) (length b) (p.constraints k h).0)) in
    starts_cons b i (i + 1) (length (events_at b i)) (length (constraints_at b i) ∷ final ∷ (es ++ cs)) refl (sym (records_count (event_at b) 3 (i + 3) n))
    (starts_cons b (i + 1) (i + 2) (length (constraints_at b i)) (final ∷ (es ++ cs)) (omega arith) (sym (records_count (constraint_at b) 6 (constraints_place b i) m))
    (starts_cons b (i + 2) (i + 3) final (es ++ cs) (omega arith) (sym (final_bytes (byte b (i + 2)) head.final))
    (starts_join b (i + 3) (constraints_place b i) es cs (omega arith) events constraints)))

-- the chart's rules from its tests

pub chart_good : (b : List ℕ) (stations i : ℕ) → ChartPasses b stations i → GoodChart stations (chart_at b i)
chart_good b stations i p =
    let head = head_facts b i p.head in
    let n = byte b i in
    let m = byte b (i + 1) in
    let es = events_at b i in
    let count : length es ≡ n = records_count (event_at b) 3 (i + 3) n in
    let counts : length (constraints_at b i) ≡ m = records_count (constraint_at b) 6 (constraints_place b i) m in
    let facts : (k : ℕ) → k < n → EventFacts b stations n (i + 3 + 3 * k) = λ k h. event_facts b stations n (i + 3 + 3 * k) (p.events k h) in
    let at : (k : ℕ) → k < n → event es k ≡ event_at b (i + 3 + 3 * k) = λ k h. records_at (event_at b) no_event 3 (i + 3) n k h in
    let at' : (k : ℕ) → k < m → get_or (constraints_at b i) k no_constraint ≡ constraint_at b (constraints_place b i + 6 * k) = λ k h. records_at (constraint_at b) no_constraint 6 (constraints_place b i) m k h in
    record {
      events_least = omega (arith, head.least);
      events_most = omega (arith, head.most);
      events_even = ap (λ x. x % 2) count ∙ head.even;
      constraints_most = omega (arith, head.constraints);
      on_station = λ e h. let l : e < n = omega arith in subst (λ x. x.station < stations) (sym (at e l)) (facts e l).station;
      paired = λ e h. let l : e < n = omega arith in (decides_paired es e).0 (p.pairs e l).0;
      acyclic = (decides_acyclic es).0 p.order.0;
      ordered = λ k h. let l : k < m = omega arith in subst (λ x. DirectlyBefore es x.first x.second) (sym (at' k l)) ((decides_before es (byte b (constraints_place b i + 6 * k)) (byte b (constraints_place b i + 6 * k + 1))).0 (p.constraints k l).1.0);
      proper = λ k h. let l : k < m = omega arith in subst (λ x. Proper x.interval) (sym (at' k l)) ((decides_proper (constraint_at b (constraints_place b i + 6 * k)).interval).0 (p.constraints k l).1.1.0);
    }

-- the parts of a chart whose bytes stand at i
record ChartParts (b : List ℕ) (i : ℕ) (c : ChartValue) : Type 0 where
  count : byte b i ≡ length c.events
  counts : byte b (i + 1) ≡ length c.constraints
  final : byte b (i + 2) ≡ final_byte c.final
  events : Starts b (i + 3) (joined event_bytes c.events ++ joined constraint_bytes c.constraints)
  constraints : Starts b (i + 3 + 3 * length c.events) (joined constraint_bytes c.constraints ++ [])

chart_parts : (b : List ℕ) (i : ℕ) (c : ChartValue) → Starts b i (chart_bytes c) → ChartParts b i c
chart_parts b i c s =
    let es = joined event_bytes c.events in
    let cs = joined constraint_bytes c.constraints in
    let n = length c.events in
    let m = length c.constraints in
    let f = final_byte c.final in
    let t = starts_tail b i (i + 1) n (m ∷ f ∷ (es ++ cs)) refl s in
    let u = starts_tail b (i + 1) (i + 2) m (f ∷ (es ++ cs)) (omega arith) t in
    let v = starts_tail b (i + 2) (i + 3) f (es ++ cs) (omega arith) u in
    record {
      count = starts_head b i n (m ∷ f ∷ (es ++ cs)) s;
      counts = starts_head b (i + 1) m (f ∷ (es ++ cs)) t;
      final = starts_head b (i + 2) f (es ++ cs) u;
      events = v;
      constraints = subst (λ x. Starts b (i + 3 + 3 * n) x) (sym (append-nil cs)) (records_places b event_bytes no_event c.events cs 3 (i + 3) v (λ k h. refl)).1;
    }

-- the tests of the chart from its bytes and its rules
pub chart_tested : (b : List ℕ) (stations i : ℕ) → Starts b i (chart_bytes (chart_at b i)) → GoodChart stations (chart_at b i) → ChartPasses b stations i
chart_tested b stations i s good =
    let n = byte b i in
    let m = byte b (i + 1) in
    let es = events_at b i in
    let cs = constraints_at b i in
    let parts = chart_parts b i (chart_at b i) s in
    let count : length es ≡ n = records_count (event_at b) 3 (i + 3) n in
    let counts : length cs ≡ m = records_count (constraint_at b) 6 (constraints_place b i) m in
    let at : (k : ℕ) → k < n → event es k ≡ event_at b (i + 3 + 3 * k) = λ k h. records_at (event_at b) no_event 3 (i + 3) n k h in
    let at' : (k : ℕ) → k < m → get_or cs k no_constraint ≡ constraint_at b (constraints_place b i + 6 * k) = λ k h. records_at (constraint_at b) no_constraint 6 (constraints_place b i) m k h in
    let after : Starts b (constraints_place b i) (joined constraint_bytes cs ++ []) = subst (λ x. Starts b (i + 3 + 3 * x) (joined constraint_bytes cs ++ [])) count parts.constraints in
    let head : HeadFacts b i =
    record { lies = omega (arith, s.within); least = omega (arith, good.events_least); most = omega (arith, good.events_most); even = ap (λ x. x % 2) (sym count) ∙ good.events_even; constraints = omega (arith, good.constraints_most); final = let f = parts.final in let l = final_most (chart_at b i).final in omega arith } in
    record {
      head = head_tests_lem b i head;
      events = λ k h.
          let l : k < length es = omega arith in
          let here = (records_places b event_bytes no_event es (joined constraint_bytes cs) 3 (i + 3) parts.events (λ k h. refl)).0 k l in
          event_tests_lem b stations n (i + 3 + 3 * k)
          (record {
            lies = omega (arith, here.within);
            station = subst (λ x. x.station < stations) (at k h) (good.on_station k l);
            kind = event_kind b (i + 3 + 3 * k) (event es k) here;
            pair = let q = subst (λ x. x.pair < length es) (at k h) (good.paired k l).exists in omega arith;
          });
      order = ((decides_acyclic es).1 good.acyclic, tt);
      pairs = λ k h. let l : k < length es = omega arith in ((decides_paired es k).1 (good.paired k l), tt);
      constraints = λ k h.
          let l : k < length cs = omega arith in
          let j = constraints_place b i + 6 * k in
          let here = (records_places b constraint_bytes no_constraint cs [] 6 (constraints_place b i) after (λ k h. refl)).0 k l in (
            le-leb (j + 6) (length b) (omega (arith, here.within)),
            (
              (decides_before es (byte b j) (byte b (j + 1))).1 (subst (λ x. DirectlyBefore es x.first x.second) (at' k h) (good.ordered k l)),
              ((decides_proper (constraint_at b j).interval).1 (subst (λ x. Proper x.interval) (at' k h) (good.proper k l)), tt),
            ),
          );
    }

same_chart : (es fs : List Event) (cs ds : List Constraint) (f g : Bool) → es ≡ fs → cs ≡ ds → f ≡ g → ◌≡◌ {A = ChartValue} (record { events = es; constraints = cs; final = f }) (record { events = fs; constraints = ds; final = g })
same_chart es fs cs ds f g p q r = cc

-- the bytes of a good chart are read as that chart
pub chart_read : (b : List ℕ) (stations i : ℕ) (c : ChartValue) → GoodChart stations c → Starts b i (chart_bytes c) → chart_at b i ≡ c
chart_read b stations i c good s =
    let parts = chart_parts b i c s in
    let es = c.events in
    let cs = c.constraints in
    same_chart (events_at b i) es (constraints_at b i) cs (eqb (byte b (i + 2)) 1) c.final
    (ap (records (event_at b) 3 (i + 3)) parts.count ∙ records_read b event_bytes (event_at b) no_event es (joined constraint_bytes cs) 3 (i + 3) parts.events (λ k h. refl) (λ k j h x. event_read b j (event es k) x))
    (ap (λ x. records (constraint_at b) 6 (i + 3 + 3 * x) (byte b (i + 1))) parts.count ∙ ap (records (constraint_at b) 6 (i + 3 + 3 * length es)) parts.counts
    ∙ records_read b constraint_bytes (constraint_at b) no_constraint cs [] 6 (i + 3 + 3 * length es) parts.constraints (λ k h. refl) (λ k j h x. constraint_read b j (get_or cs k no_constraint) (good.proper k h) x))
    (ap (λ x. eqb x 1) parts.final ∙ final_read c.final)

-- the place after a chart whose bytes stand at i
pub chart_end : (b : List ℕ) (i : ℕ) (c : ChartValue) → Starts b i (chart_bytes c) → constraints_place b i + 6 * byte b (i + 1) ≡ i + length (chart_bytes c)
chart_end b i c s =
    let parts = chart_parts b i c s in
    let len = length_chart c in
    let x = parts.count in
    let y = parts.counts in
    omega arith
