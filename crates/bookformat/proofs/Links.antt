-- A link at a place: its tests, its bytes and its rules.
use Rattle.std.proofs.Common.{◌≡◌, ℕ, ◌+◌, ◌*◌, ◌<◌, not, ◌||◌, List, ◌∷◌, length, get_or, None, Decides, sym, ◌∙◌, subst, arith}
use Rattle.std.proofs.lemmas.Bool.{le-leb, ltb-true, lt-ltb}
use Rattle.bookformat.specs.declared.value.Interval.{Interval}
use Rattle.bookformat.specs.declared.value.Link.{Link}
use Rattle.bookformat.specs.Values.{ChartValue, BookValue}
use Rattle.bookformat.specs.Encoding.{link_bytes}
use Rattle.bookformat.specs.Rules.{unbounded, Proper, Apart, GoodLink}
use Rattle.bookformat.specs.Layout.{byte, interval_at, link_at}
use Rattle.bookformat.specs.Reading.{Test, first_fault, each, lies, is_unbounded, is_apart, station_tests, events_of, ends_fields, link_tests}
use Rattle.bookformat.proofs.Faults.{none_left, none_right, none_join, each_none, each_at, Passes, passes, passed}
use Rattle.bookformat.proofs.Parts.{Starts}
use Rattle.bookformat.proofs.Tests.{decides_proper, decides_apart, decides_due}
use Rattle.bookformat.proofs.Records.{length_link, records_at, records_count}

-- the tests before those of the stations
abbrev first_tests : List ℕ → List ChartValue → ℕ → List Test
first_tests b charts i = lies b i 34 ∷ ends_fields (length charts) (byte b i) (byte b (i + 1)) i

abbrev stations_tests : List ℕ → ℕ → List ChartValue → ℕ → ℕ → List Test
stations_tests b stations charts i p = station_tests (interval_at b (i + 2 + 4 * p)) (is_apart stations (events_of charts (byte b i)) (events_of charts (byte b (i + 1))) p) i

-- every test of the link holds
pub record LinkPasses (b : List ℕ) (stations : ℕ) (charts : List ChartValue) (i : ℕ) : Type 0 where
  pub first : Passes (first_tests b charts i)
  pub intervals : (p : ℕ) → p < 8 → Passes (stations_tests b stations charts i p)

pub link_passes : (b : List ℕ) (stations : ℕ) (charts : List ChartValue) (i : ℕ) → first_fault (link_tests b stations charts i) ≡ None → LinkPasses b stations charts i
link_passes b stations charts i none =
    let first = first_tests b charts i in
    let later = stations_tests b stations charts i in
    record { first = passes first (none_left first (each later 8) none); intervals = λ p h. passes (later p) (each_at later 8 p (none_right first (each later 8) none) h) }

pub link_passed : (b : List ℕ) (stations : ℕ) (charts : List ChartValue) (i : ℕ) → LinkPasses b stations charts i → first_fault (link_tests b stations charts i) ≡ None
link_passed b stations charts i q =
    let first = first_tests b charts i in
    let later = stations_tests b stations charts i in
    none_join first (each later 8) (passed first q.first) (each_none later 8 (λ p h. passed (later p) (q.intervals p h)))

-- the interval of station p is due wherever the station is apart
due : (v : BookValue) (l : Link) (i : Interval) (p : ℕ) → Decides (not (is_apart v.stations (events_of v.charts l.from) (events_of v.charts l.to) p) || is_unbounded i) (Apart v l p → i ≡ unbounded)
due v l i p =
    let before = events_of v.charts l.from in
    let after = events_of v.charts l.to in
    decides_due (is_apart v.stations before after p) i (Apart v l p) (decides_apart v.stations before after p)

-- the link's rules from its tests
pub link_good : (b : List ℕ) (v : BookValue) (i : ℕ) → LinkPasses b v.stations v.charts i → GoodLink v (link_at b i)
link_good b v i q =
    let at : (p : ℕ) → p < 8 → get_or (link_at b i).intervals p unbounded ≡ interval_at b (i + 2 + 4 * p) = λ p h. records_at (interval_at b) unbounded 4 (i + 2) 8 p h in
    record {
      from_exists = ltb-true (byte b i) (length v.charts) q.first.1.0;
      to_exists = ltb-true (byte b (i + 1)) (length v.charts) q.first.1.1.0;
      eight = records_count (interval_at b) 4 (i + 2) 8;
      proper = λ p h. subst (λ x. Proper x) (sym (at p h)) ((decides_proper (interval_at b (i + 2 + 4 * p))).0 (q.intervals p h).0);
      not_due = λ p h a. at p h ∙ (due v (link_at b i) (interval_at b (i + 2 + 4 * p)) p).0 (q.intervals p h).1.0 a;
    }

-- the tests of the link from its bytes and its rules
pub link_tested : (b : List ℕ) (v : BookValue) (i : ℕ) → Starts b i (link_bytes (link_at b i)) → GoodLink v (link_at b i) → LinkPasses b v.stations v.charts i
link_tested b v i s good =
    let at : (p : ℕ) → p < 8 → get_or (link_at b i).intervals p unbounded ≡ interval_at b (i + 2 + 4 * p) = λ p h. records_at (interval_at b) unbounded 4 (i + 2) 8 p h in
    let len = length_link (link_at b i) good.eight in
    record {
      first = (le-leb (i + 34) (length b) (omega (arith, s.within)), (lt-ltb (byte b i) (length v.charts) good.from_exists, (lt-ltb (byte b (i + 1)) (length v.charts) good.to_exists, tt)));
      intervals = λ p h. (
        (decides_proper (interval_at b (i + 2 + 4 * p))).1 (subst (λ x. Proper x) (at p h) (good.proper p h)),
        ((due v (link_at b i) (interval_at b (i + 2 + 4 * p)) p).1 (λ a. sym (at p h) ∙ good.not_due p h a), tt),
      );
    }
