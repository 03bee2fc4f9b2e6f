-- The tests of a link, from those of its parts.
use Rattle.std.proofs.Common.{◌≡◌, ℕ, zero, suc, ◌+◌, ◌*◌, ◌<◌, ◌≤◌, Bool, leb, ◌≢◌, List, ◌++◌, map, length, get_or, set, Some, None, sym, refl, ap, ◌∙◌, zero-add, arith, get_or-set_other, get_or-set_same, below_more}
use Rattle.std.specs.List.{range_with_len}
use Rattle.std.proofs.lemmas.List.FromFn.{fill_by_all, length-map-range_with_len, get_or-map-range_with_len}
use Rattle.std.proofs.lemmas.List.{get_or-map, length-map}
use Rattle.std.proofs.lemmas.Bool.{le-leb, cond-true}
use Rattle.bookformat.specs.declared.fault.Fault.{Fault}
use Rattle.bookformat.specs.declared.value.Event.{Event}
use Rattle.bookformat.specs.declared.value.Interval.{Interval}
use Rattle.bookformat.specs.declared.fault.Fault.TheVariants.{RecordCut}
use Rattle.bookformat.specs.declared.value.Chart.{Chart}
use Rattle.bookformat.specs.declared.value.Link.{Link}
use Rattle.bookformat.specs.Values.{ChartValue, chart_value}
use Rattle.bookformat.specs.Layout.{byte, interval_at, records, link_at}
use Rattle.bookformat.specs.Rules.{unbounded, no_chart}
use Rattle.bookformat.specs.Reading.{Test, first_fault, each, station_tests, is_apart, events_of, ends_fields, link_ends, link_stations, link_tests}
use Rattle.bookformat.proofs.Faults.{each_fails, each_passes, fault_left, fault_right}
use Rattle.bookrecords.proofs.Intervals.{interval4, interval_here, interval_read}

-- of the record `part` of a link at a place, between charts with the events `before` and `after`
module _ (part : List ℕ) (place stations : ℕ) (before after : List Event) where
  abbrev pub tests : ℕ → List Test
  tests p = station_tests (interval_at part (2 + 4 * p)) (is_apart stations before after p) place

  -- what was read at station p
  module _ (p : ℕ) (i : Interval) (apart : Bool) (front : first_fault (each tests p) ≡ None) (read : i ≡ interval4 (get_or part (2 + 4 * p) 0) (get_or part (2 + 4 * p + 1) 0) (get_or part (2 + 4 * p + 2) 0) (get_or part (2 + 4 * p + 3) 0)) (apart-is : apart ≡ is_apart stations before after p) where
    interval_is : i ≡ interval_at part (2 + 4 * p)
    interval_is = read ∙ interval_here part (2 + 4 * p)

    tests_are : station_tests i apart place ≡ tests p
    tests_are = ap (λ (j : Interval). station_tests j apart place) interval_is ∙ ap (λ (a : Bool). station_tests (interval_at part (2 + 4 * p)) a place) apart-is

    pub station_fails : (n : ℕ) (f : Fault) → p < n → first_fault (station_tests i apart place) ≡ Some f → first_fault (each tests n) ≡ Some f
    station_fails n f lt here = each_fails tests n p f lt front (sym (ap first_fault tests_are) ∙ here)

    pub station_passes : first_fault (station_tests i apart place) ≡ None → first_fault (each tests (p + 1)) ≡ None
    station_passes here = each_passes tests p front (sym (ap first_fault tests_are) ∙ here)

    pub station_set : (is : List Interval) → p < length is → ((k : ℕ) → k < p → get_or is k unbounded ≡ interval_at part (2 + 4 * k)) → (k : ℕ) → k < p + 1 → get_or (set is p i) k unbounded ≡ interval_at part (2 + 4 * k)
    station_set is lt below =
        below_more (λ k. get_or (set is p i) k unbounded ≡ interval_at part (2 + 4 * k)) p
        (λ k h. let ne : k ≢ p = omega arith in rw get_or-set_other (below k h))
        (rw get_or-set_same interval_is)

  pub stations_all : (p : ℕ) (is : List Interval) → 8 ≤ p → p ≤ 8 → length is ≡ 8 → ((k : ℕ) → k < p → get_or is k unbounded ≡ interval_at part (2 + 4 * k)) → is ≡ records (interval_at part) 4 2 8
  stations_all p is low high len below = fill_by_all (λ k. interval_at part (2 + 4 * k)) is 8 unbounded len (λ k h. below k (omega arith))

each_same : (f g : ℕ → List Test) (n : ℕ) → ((k : ℕ) → k < n → f k ≡ g k) → each f n ≡ each g n
each_same f g zero same = refl
each_same f g (suc n) same =
    ap (λ (l : List Test). l ++ f n) (each_same f g n (λ k h. same k (omega arith))) ∙ ap (λ (l : List Test). each g n ++ l) (same n (omega arith))

counted_same : {X : Type 0} (f g : ℕ → X) (n : ℕ) (d : X) → ((k : ℕ) → k < n → f k ≡ g k) → map f (range_with_len 0 n) ≡ map g (range_with_len 0 n)
counted_same f g n d same =
    fill_by_all g (map f (range_with_len 0 n)) n d (length-map-range_with_len f 0 n) (λ k h. get_or-map-range_with_len f 0 n k k d h (zero-add k) ∙ same k h)

-- a link's record at a place of the book b, its chart numbers, and the charts so far
module _ (b part : List ℕ) (place stations : ℕ) (charts : List Chart) (inside : place + 34 ≤ length b) (bytes : (k : ℕ) → k < 34 → get_or part k 0 ≡ byte b (place + k)) (from to : ℕ) (from_is : from ≡ get_or part 0 0) (to_is : to ≡ get_or part 1 0) where
  abbrev values : List ChartValue
  values = map chart_value charts

  from_byte : from ≡ byte b place
  from_byte = from_is ∙ bytes 0 (omega arith) ∙ ap (byte b) (omega arith)

  to_byte : to ≡ byte b (place + 1)
  to_byte = to_is ∙ bytes 1 (omega arith)

  ends_are : ends_fields (length charts) from to place ≡ ends_fields (length values) (byte b place) (byte b (place + 1)) place
  ends_are =
      ap (λ n. ends_fields n from to place) (sym (length-map charts chart_value))
      ∙ ap (λ n. ends_fields (length values) n to place) from_byte ∙ ap (λ n. ends_fields (length values) (byte b place) n place) to_byte

  front : first_fault (link_ends b values place) ≡ first_fault (ends_fields (length charts) from to place)
  front =
      cond-true (leb (place + 34) (length b)) (first_fault (ends_fields (length values) (byte b place) (byte b (place + 1)) place)) (Some (RecordCut place)) (le-leb (place + 34) (length b) inside)
      ∙ sym (ap first_fault ends_are)

  pub ends_fail : (f : Fault) → first_fault (ends_fields (length charts) from to place) ≡ Some f → first_fault (link_tests b stations values place) ≡ Some f
  ends_fail f here = fault_left (link_ends b values place) (link_stations b stations values place) f (front ∙ here)

  events_of_lem : (n m : ℕ) (c : Chart) (es : List Event) → n ≡ m → n < length charts → es ≡ (get_or charts n c).events.items → es ≡ events_of values m
  events_of_lem n m c es e lt is =
      is ∙ sym (ap (λ (v : ChartValue). v.events) (get_or-map chart_value charts n c no_chart lt)) ∙ ap (λ k. events_of values k) e

  interval_same : (k : ℕ) → k < 8 → interval_at part (2 + 4 * k) ≡ interval_at b (place + 2 + 4 * k)
  interval_same k h = sym (interval_here part (2 + 4 * k)) ∙ interval_read b part place 34 (2 + 4 * k) bytes (omega arith) ∙ ap (interval_at b) (omega arith)

  -- the events of the two charts
  module _ (earlier later : Chart) (before after : List Event) (ends-pass : first_fault (ends_fields (length charts) from to place) ≡ None) (exist : (from < length charts) × (to < length charts)) (before-is : before ≡ (get_or charts from earlier).events.items) (after_is : after ≡ (get_or charts to later).events.items) where
    stations_are : each (tests part place stations before after) 8 ≡ link_stations b stations values place
    stations_are =
        each_same (tests part place stations before after) (λ p. station_tests (interval_at b (place + 2 + 4 * p)) (is_apart stations (events_of values (byte b place)) (events_of values (byte b (place + 1))) p) place) 8
        (λ k h.
        ap (λ (i : Interval). station_tests i (is_apart stations before after k) place) (interval_same k h)
        ∙ ap (λ (es : List Event). station_tests (interval_at b (place + 2 + 4 * k)) (is_apart stations es after k) place) (events_of_lem from (byte b place) earlier before from_byte exist.0 before-is)
        ∙ ap (λ (es : List Event). station_tests (interval_at b (place + 2 + 4 * k)) (is_apart stations (events_of values (byte b place)) es k) place) (events_of_lem to (byte b (place + 1)) later after to_byte exist.1 after_is))

    pub stations_fault : first_fault (link_tests b stations values place) ≡ first_fault (each (tests part place stations before after) 8)
    stations_fault = fault_right (link_ends b values place) (link_stations b stations values place) (front ∙ ends-pass) ∙ sym (ap first_fault stations_are)

  same_link : (f t : ℕ) (is js : List Interval) → f ≡ byte b place → t ≡ byte b (place + 1) → is ≡ js → ◌≡◌ {A = Link} (record { from = f; to = t; intervals = is }) (record { from = byte b place; to = byte b (place + 1); intervals = js })
  same_link f t is js p q e = cc

  pub link_is : (is : List Interval) → is ≡ records (interval_at part) 4 2 8 → ◌≡◌ {A = Link} (record { from = get_or part 0 0; to = get_or part 1 0; intervals = is }) (link_at b place)
  link_is is read =
      same_link (get_or part 0 0) (get_or part 1 0) is (records (interval_at b) 4 (place + 2) 8) (sym from_is ∙ from_byte) (sym to_is ∙ to_byte)
      (read ∙ counted_same (λ k. interval_at part (2 + 4 * k)) (λ k. interval_at b (place + 2 + 4 * k)) 8 unbounded interval_same)
