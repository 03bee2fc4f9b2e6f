-- The tests of a chart, from those of its parts.
use Rattle.std.proofs.Common.{◌≡◌, ℕ, ◌+◌, ◌*◌, ◌≤◌, Bool, true, false, eqb, leb, List, [], ◌++◌, length, Some, None, Decides, sym, refl, ap, ◌∙◌, arith}
use Rattle.std.proofs.lemmas.Bool.Decides.{nat_tests, same_from_decides}
use Rattle.std.proofs.lemmas.List.FromFn.{length-map-range_with_len}
use Rattle.bookformat.specs.declared.fault.Fault.{Fault}
use Rattle.bookformat.specs.declared.fault.Fault.TheVariants.{RecordCut, CyclicOrder}
use Rattle.bookformat.specs.declared.value.Event.{Event}
use Rattle.bookformat.specs.declared.value.Constraint.{Constraint}
use Rattle.bookformat.specs.Rules.{Acyclic}
use Rattle.bookformat.specs.Layout.{byte, event_at, constraint_at, records, events_at, constraints_place, chart_at}
use Rattle.bookformat.specs.Reading.{Test, first_fault, each, head_fields, head_tests, event_tests, pair_tests, constraint_tests, chart_events, chart_pairs, chart_constraints, is_acyclic, order_tests, chart_tests}
use Rattle.bookformat.proofs.Faults.{fault_left, fault_right, none_tail, none_cons, some_head}
use Rattle.bookformat.proofs.Orders.{decides_acyclic}
use Rattle.bookrecords.specs.declared.fields.ChartHead.{ChartHead}

-- b is the book, `head` what the head at the place says
module _ (b : List ℕ) (stations place : ℕ) (head : ChartHead) (is : head ≡ record { events = byte b place; constraints = byte b (place + 1); is_final = eqb (byte b (place + 2)) 1 }) (head_Passed : first_fault (head_tests b place) ≡ None) where
  events_is : head.events ≡ byte b place
  events_is = ap (λ (h : ChartHead). h.events) is

  -- a chart takes at most 507 bytes
  pub chart_near : place + 3 + 3 * head.events + 6 * head.constraints ≤ place + 507
  chart_near =
      let fields = none_tail (leb (place + 3) (length b)) (RecordCut place) (head_fields (byte b place) (byte b (place + 1)) (byte b (place + 2)) place) head_Passed in
      let e : byte b place ≤ 40 = grind (arith, nat_tests) in
      let c : byte b (place + 1) ≤ 64 = grind (arith, nat_tests) in
      omega (arith, events_is, ap (λ (h : ChartHead). h.constraints) is)

  events_are : each (λ k. event_tests b stations head.events (place + 3 + 3 * k)) head.events ≡ chart_events b stations place
  events_are = ap (λ n. each (λ k. event_tests b stations n (place + 3 + 3 * k)) n) events_is

  -- the constraints and the order, and the pairs before them
  abbrev from_constraints : List Test
  from_constraints = chart_constraints b place ++ order_tests (events_at b place) place

  abbrev from_pairs : List Test
  from_pairs = chart_pairs b place ++ from_constraints

  pub events_fail : (f : Fault) → first_fault (each (λ k. event_tests b stations head.events (place + 3 + 3 * k)) head.events) ≡ Some f → first_fault (chart_tests b stations place) ≡ Some f
  events_fail f here =
      fault_right (head_tests b place) (chart_events b stations place ++ from_pairs) head_Passed
      ∙ fault_left (chart_events b stations place) from_pairs f (sym (ap first_fault events_are) ∙ here)

  -- the events that were read
  module _ (events-passed : first_fault (each (λ k. event_tests b stations head.events (place + 3 + 3 * k)) head.events) ≡ None) (es : List Event) (es-are : es ≡ records (event_at b) 3 (place + 3) head.events) where
    pub events_at_lem : es ≡ events_at b place
    events_at_lem = es-are ∙ ap (records (event_at b) 3 (place + 3)) events_is

    pub events_count : length es ≡ byte b place
    events_count = ap length events_at_lem ∙ length-map-range_with_len (λ k. event_at b (place + 3 + 3 * k)) 0 (byte b place)

    to_pairs : (rest : List Test) → first_fault (head_tests b place ++ (chart_events b stations place ++ rest)) ≡ first_fault rest
    to_pairs rest =
        fault_right (head_tests b place) (chart_events b stations place ++ rest) head_Passed
        ∙ fault_right (chart_events b stations place) rest (sym (ap first_fault events_are) ∙ events-passed)

    pairs_are : each (pair_tests es (place + 3)) (length es) ≡ chart_pairs b place
    pairs_are =
        ap (λ (l : List Event). each (pair_tests l (place + 3)) (length es)) events_at_lem
        ∙ ap (each (pair_tests (events_at b place) (place + 3))) events_count

    pub pairs_fail : (f : Fault) → first_fault (each (pair_tests es (place + 3)) (length es)) ≡ Some f → first_fault (chart_tests b stations place) ≡ Some f
    pairs_fail f here = to_pairs from_pairs ∙ fault_left (chart_pairs b place) from_constraints f (sym (ap first_fault pairs_are) ∙ here)

    constraints_are : each (λ k. constraint_tests b es (place + 3 + 3 * head.events + 6 * k)) head.constraints ≡ chart_constraints b place
    constraints_are =
        ap (λ (l : List Event). each (λ k. constraint_tests b l (place + 3 + 3 * head.events + 6 * k)) head.constraints) events_at_lem
        ∙ ap (λ (h : ChartHead). each (λ k. constraint_tests b (events_at b place) (place + 3 + 3 * h.events + 6 * k)) h.constraints) is

    module _ (pairs-passed : first_fault (each (pair_tests es (place + 3)) (length es)) ≡ None) where
      to_constraints : first_fault (chart_tests b stations place) ≡ first_fault from_constraints
      to_constraints = to_pairs from_pairs ∙ fault_right (chart_pairs b place) from_constraints (sym (ap first_fault pairs_are) ∙ pairs-passed)

      pub constraints_fail : (f : Fault) → first_fault (each (λ k. constraint_tests b es (place + 3 + 3 * head.events + 6 * k)) head.constraints) ≡ Some f → first_fault (chart_tests b stations place) ≡ Some f
      constraints_fail f here = to_constraints ∙ fault_left (chart_constraints b place) (order_tests (events_at b place) place) f (sym (ap first_fault constraints_are) ∙ here)

      -- what the order's test answers of the events that were read
      module _ (constraints-passed : first_fault (each (λ k. constraint_tests b es (place + 3 + 3 * head.events + 6 * k)) head.constraints) ≡ None) (sound : Bool) (decided : Decides sound (Acyclic es)) where
        to_order : first_fault (chart_tests b stations place) ≡ first_fault (order_tests (events_at b place) place)
        to_order = to_constraints ∙ fault_right (chart_constraints b place) (order_tests (events_at b place) place) (sym (ap first_fault constraints_are) ∙ constraints-passed)

        sound_is : is_acyclic (events_at b place) ≡ sound
        sound_is = sym (same_from_decides sound (is_acyclic es) decided (decides_acyclic es) ∙ ap is_acyclic events_at_lem)

        pub order_fails : sound ≡ false → first_fault (chart_tests b stations place) ≡ Some (CyclicOrder place)
        order_fails is = to_order ∙ some_head (is_acyclic (events_at b place)) (CyclicOrder place) [] (sound_is ∙ is)

        pub order_passes : sound ≡ true → first_fault (chart_tests b stations place) ≡ None
        order_passes is = to_order ∙ none_cons (is_acyclic (events_at b place)) (CyclicOrder place) [] (sound_is ∙ is) refl

    pub chart_is : (cs : List Constraint) → cs ≡ records (constraint_at b) 6 (place + 3 + 3 * head.events) head.constraints → record { events = es; constraints = cs; final = head.is_final } ≡ chart_at b place
    chart_is cs cs-are =
        let e = events_at_lem in
        let c : cs ≡ records (constraint_at b) 6 (constraints_place b place) (byte b (place + 1)) = cs-are ∙ ap (λ (h : ChartHead). records (constraint_at b) 6 (place + 3 + 3 * h.events) h.constraints) is in
        let f : head.is_final ≡ eqb (byte b (place + 2)) 1 = ap (λ (h : ChartHead). h.is_final) is in
        cc
