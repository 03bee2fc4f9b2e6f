-- The tests of a book in reading order, each with the fault that it names.
use Rattle.std.specs.Prelude.{ℕ, zero, suc, ◌+◌, ◌*◌, ◌%◌, Bool, true, false, cond, not, ◌&&◌, ◌||◌, List, [], ◌∷◌, ◌++◌, length, Some, None, Option, ◌==◌, nat_le, nat_lt, slice_index_or}
use Rattle.bookformat.specs.declared.value.Kind.{Kind}
use Rattle.bookformat.specs.declared.value.Kind.TheVariants.{Send, Receive}
use Rattle.bookformat.specs.declared.value.Event.{Event}
use Rattle.bookformat.specs.declared.value.Interval.{Interval}
use Rattle.bookformat.specs.declared.fault.Fault.{Fault}
use Rattle.bookformat.specs.declared.fault.Fault.TheVariants.{RecordCut, WrongMark, WrongVersion, FieldOutOfRange, TrailingBytes, BadEvent, NotDirectlyBefore, CyclicOrder, BadConstraintInterval, BadLinkInterval, NoSuchChart, IntervalNotDue}
use Rattle.bookformat.specs.Values.{ChartValue}
use Rattle.bookformat.specs.Rules.{event, no_chart}
use Rattle.bookformat.specs.Layout.{byte, word, interval_at, events_at, constraints_place, chart_place, charts_at, links_place}

pub record Test : Type 0 where
  pub holds : Bool
  pub fault : Fault

abbrev pub test : Bool → Fault → Test
test t f = record { holds = t; fault = f }

-- the fault of the first test that fails
abbrev pub first_fault : List Test → Option Fault
first_fault [] = None
first_fault (t ∷ ts) = cond t.holds (first_fault ts) (Some t.fault)

-- the tests of 0, of 1 and so on below n, one after the other
abbrev pub each : (ℕ → List Test) → ℕ → List Test
each tests zero = []
each tests (suc n) = each tests n ++ tests n

-- the record of so many bytes at a place lies wholly in the book
abbrev pub lies : List ℕ → ℕ → ℕ → Test
lies b place len = test (nat_le (place + len) (length b)) (RecordCut place)

abbrev pub between : ℕ → ℕ → ℕ → Bool
between low high n = nat_le low n && nat_le n high

abbrev pub mark_tests : List ℕ → List Test
mark_tests b =
    lies b 0 5
    ∷ test (byte b 0 == 0x54 && byte b 1 == 0x43 && byte b 2 == 0x4d) WrongMark
    ∷ test (byte b 3 == 0 && byte b 4 == 1) WrongVersion
    ∷ []

-- the fields of the header
abbrev pub header_fields : ℕ → ℕ → ℕ → ℕ → ℕ → ℕ → List Test
header_fields stations charts first links near far =
    test (between 2 8 stations) (FieldOutOfRange 5)
    ∷ test (between 1 32 charts) (FieldOutOfRange 6)
    ∷ test (nat_lt first charts) (FieldOutOfRange 7)
    ∷ test (nat_le links 128) (FieldOutOfRange 8)
    ∷ test (nat_le near 10000) (FieldOutOfRange 9)
    ∷ test (nat_le far 10000) (FieldOutOfRange 11)
    ∷ test (nat_le near far) (FieldOutOfRange 11)
    ∷ []

abbrev pub header_tests : List ℕ → List Test
header_tests b = lies b 5 8 ∷ header_fields (byte b 5) (byte b 6) (byte b 7) (byte b 8) (word b 9) (word b 11)

-- the fields of a chart's head: how many events and constraints, and the final mark
abbrev pub head_fields : ℕ → ℕ → ℕ → ℕ → List Test
head_fields events constraints final i =
    test (between 2 40 events && events % 2 == 0) (FieldOutOfRange i)
    ∷ test (nat_le constraints 64) (FieldOutOfRange (i + 1))
    ∷ test (nat_le final 1) (FieldOutOfRange (i + 2))
    ∷ []

abbrev pub head_tests : List ℕ → ℕ → List Test
head_tests b i = lies b i 3 ∷ head_fields (byte b i) (byte b (i + 1)) (byte b (i + 2)) i

abbrev pub is_kind : ℕ → Bool
is_kind k = k == 0x21 || k == 0x3f

-- the fields of an event, in a book with so many stations and a chart with so many events
abbrev pub event_fields : ℕ → ℕ → ℕ → ℕ → ℕ → ℕ → List Test
event_fields stations events station kind pair i =
    test (nat_lt station stations) (BadEvent i) ∷ test (is_kind kind) (BadEvent i) ∷ test (nat_lt pair events) (BadEvent i) ∷ []

abbrev pub event_tests : List ℕ → ℕ → ℕ → ℕ → List Test
event_tests b stations events i = lies b i 3 ∷ event_fields stations events (byte b i) (byte b (i + 1)) (byte b (i + 2)) i

abbrev pub sends : Kind → Bool
sends Send = true
sends Receive = false

abbrev pub same_kind : Kind → Kind → Bool
same_kind Send k = sends k
same_kind Receive k = not (sends k)

-- the pair of event e exists, has e for its pair, is of the other kind and on another station
abbrev pub is_paired : List Event → ℕ → Bool
is_paired es e =
    nat_lt (event es e).pair (length es)
    && (event es (event es e).pair).pair == e
    && not (same_kind (event es (event es e).pair).kind (event es e).kind)
    && not ((event es (event es e).pair).station == (event es e).station)

abbrev pub pair_tests : List Event → ℕ → ℕ → List Test
pair_tests es place e = test (is_paired es e) (BadEvent (place + 3 * e)) ∷ []

abbrev pub is_directly_before : List Event → ℕ → ℕ → Bool
is_directly_before es e f =
    (nat_lt e f && nat_lt f (length es) && (event es e).station == (event es f).station)
    || (nat_lt e (length es) && sends (event es e).kind && (event es e).pair == f)

abbrev pub end_proper : ℕ → Option ℕ → Bool
end_proper lower (Some u) = nat_le u 10000 && nat_le lower u
end_proper lower None = true

abbrev pub is_proper : Interval → Bool
is_proper i = nat_le i.lower 10000 && end_proper i.lower i.upper

-- the fields of a constraint, in a chart with such events
abbrev pub constraint_fields : List Event → ℕ → ℕ → Interval → ℕ → List Test
constraint_fields es first second interval i =
    test (is_directly_before es first second) (NotDirectlyBefore i) ∷ test (is_proper interval) (BadConstraintInterval i) ∷ []

abbrev pub constraint_tests : List ℕ → List Event → ℕ → List Test
constraint_tests b es i = lies b i 6 ∷ constraint_fields es (byte b i) (byte b (i + 1)) (interval_at b (i + 2)) i

-- e comes before f by way of events below m
abbrev pub is_before_by : List Event → ℕ → ℕ → ℕ → Bool
is_before_by es zero e f = is_directly_before es e f
is_before_by es (suc m) e f = is_before_by es m e f || (is_before_by es m e m && is_before_by es m m f)

-- p holds of no number below n
abbrev pub none_below : (ℕ → Bool) → ℕ → Bool
none_below p zero = true
none_below p (suc n) = none_below p n && not (p n)

-- no event comes before itself
abbrev pub is_acyclic : List Event → Bool
is_acyclic es = none_below (λ e. is_before_by es (length es) e e) (length es)

abbrev pub order_tests : List Event → ℕ → List Test
order_tests es i = test (is_acyclic es) (CyclicOrder i) ∷ []

-- of a chart whose head is at i: its events, their pairing, its constraints
abbrev pub chart_events : List ℕ → ℕ → ℕ → List Test
chart_events b stations i = each (λ k. event_tests b stations (byte b i) (i + 3 + 3 * k)) (byte b i)

abbrev pub chart_pairs : List ℕ → ℕ → List Test
chart_pairs b i = each (pair_tests (events_at b i) (i + 3)) (byte b i)

abbrev pub chart_constraints : List ℕ → ℕ → List Test
chart_constraints b i = each (λ k. constraint_tests b (events_at b i) (constraints_place b i + 6 * k)) (byte b (i + 1))

abbrev pub chart_tests : List ℕ → ℕ → ℕ → List Test
chart_tests b stations i =
    head_tests b i
    ++ (chart_events b stations i ++ (chart_pairs b i ++ (chart_constraints b i ++ order_tests (events_at b i) i)))

-- no event is on station p
abbrev pub is_silent : List Event → ℕ → Bool
is_silent [] p = true
is_silent (e ∷ es) p = not (e.station == p) && is_silent es p

abbrev pub no_upper : Option ℕ → Bool
no_upper (Some u) = false
no_upper None = true

abbrev pub is_unbounded : Interval → Bool
is_unbounded i = i.lower == 0 && no_upper i.upper

-- station p takes no part in a link between two charts
abbrev pub is_apart : ℕ → List Event → List Event → ℕ → Bool
is_apart stations before after p = nat_le stations p || is_silent before p || is_silent after p

abbrev pub station_tests : Interval → Bool → ℕ → List Test
station_tests interval apart i =
    test (is_proper interval) (BadLinkInterval i) ∷ test (not apart || is_unbounded interval) (IntervalNotDue i) ∷ []

abbrev pub events_of : List ChartValue → ℕ → List Event
events_of charts c = (slice_index_or charts c no_chart).events

-- the charts of a link, where there are so many
abbrev pub ends_fields : ℕ → ℕ → ℕ → ℕ → List Test
ends_fields charts from to i = test (nat_lt from charts) (NoSuchChart i) ∷ test (nat_lt to charts) (NoSuchChart i) ∷ []

-- station by station
abbrev pub link_stations : List ℕ → ℕ → List ChartValue → ℕ → List Test
link_stations b stations charts i =
    each (λ p. station_tests (interval_at b (i + 2 + 4 * p)) (is_apart stations (events_of charts (byte b i)) (events_of charts (byte b (i + 1))) p) i) 8

abbrev pub link_ends : List ℕ → List ChartValue → ℕ → List Test
link_ends b charts i = lies b i 34 ∷ ends_fields (length charts) (byte b i) (byte b (i + 1)) i

abbrev pub link_tests : List ℕ → ℕ → List ChartValue → ℕ → List Test
link_tests b stations charts i = link_ends b charts i ++ link_stations b stations charts i

-- a book of so many bytes ends at i
abbrev pub end_test : ℕ → ℕ → List Test
end_test size i = test (nat_le size i) (TrailingBytes i) ∷ []

abbrev pub end_tests : List ℕ → ℕ → List Test
end_tests b i = end_test (length b) i

abbrev pub book_charts : List ℕ → List Test
book_charts b = each (λ k. chart_tests b (byte b 5) (chart_place b k)) (byte b 6)

abbrev pub book_links : List ℕ → List Test
book_links b = each (λ k. link_tests b (byte b 5) (charts_at b) (links_place b + 34 * k)) (byte b 8)

-- all tests of a book
abbrev pub reading : List ℕ → List Test
reading b = mark_tests b ++ (header_tests b ++ (book_charts b ++ (book_links b ++ end_tests b (links_place b + 34 * byte b 8))))

-- the fault of the first failing test, or none
abbrev pub fault : List ℕ → Option Fault
fault b = first_fault (reading b)
