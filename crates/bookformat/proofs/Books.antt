-- A book's bytes: its tests, its parts and its rules.
use Rattle.std.proofs.Common.{◌≡◌, ℕ, suc, ◌+◌, ◌*◌, ◌<◌, ◌≤◌, leb, List, [], ◌∷◌, ◌++◌, length, None, sym, refl, subst, arith}
use Rattle.std.proofs.lemmas.List.FromFn.{length-map-range_with_len}
use Rattle.std.proofs.lemmas.List.{append-nil, length-append}
use Rattle.std.proofs.lemmas.Bool.{leb-true, le-leb, ltb-true, lt-ltb, and_parts, and_from}
use Rattle.bookformat.specs.Values.{BookValue}
use Rattle.bookformat.specs.Encoding.{two, joined, chart_bytes, link_bytes, mark_bytes, header_bytes, encode}
use Rattle.bookformat.specs.Rules.{no_chart, chart}
use Rattle.bookformat.specs.Layout.{byte, word, link_at, chart_at, chart_place, charts_at, links_place, book_at}
use Rattle.bookformat.specs.Reading.{Test, each, mark_tests, header_tests, chart_tests, link_tests, end_tests, fault}
use Rattle.bookformat.proofs.Faults.{none_left, none_right, none_join, each_none, each_at, Passes, passes, passed}
use Rattle.bookformat.proofs.Parts.{Starts, starts_head, starts_tail, starts_left, starts_right, joined_ends, joined_places}
use Rattle.bookformat.proofs.Records.{word_read, records_length, records_count}
use Rattle.bookformat.proofs.Charts.{ChartPasses, chart_passes, chart_passed, chart_end}
use Rattle.bookformat.proofs.Links.{LinkPasses, link_passes, link_passed}

-- the tests of chart k and of link k
abbrev of_chart : List ℕ → ℕ → List Test
of_chart b k = chart_tests b (byte b 5) (chart_place b k)

abbrev of_link : List ℕ → ℕ → List Test
of_link b k = link_tests b (byte b 5) (charts_at b) (links_place b + 34 * k)

-- every test of the book holds
pub record BookPasses (b : List ℕ) : Type 0 where
  pub mark : Passes (mark_tests b)
  pub header : Passes (header_tests b)
  pub charts : (k : ℕ) → k < byte b 6 → ChartPasses b (byte b 5) (chart_place b k)
  pub links : (k : ℕ) → k < byte b 8 → LinkPasses b (byte b 5) (charts_at b) (links_place b + 34 * k)
  pub end : Passes (end_tests b (links_place b + 34 * byte b 8))

module _ (b : List ℕ) where
  abbrev end : List Test
  end = end_tests b (links_place b + 34 * byte b 8)

  -- the tests from the links on, from the charts on, and from the header on
  abbrev from_links : List Test
  from_links = each (of_link b) (byte b 8) ++ end

  abbrev from_charts : List Test
  from_charts = each (of_chart b) (byte b 6) ++ from_links

  abbrev from_header : List Test
  from_header = header_tests b ++ from_charts

  pub book_passes : fault b ≡ None → BookPasses b
  book_passes none =
      let header = none_right (mark_tests b) from_header none in
      let charts = none_right (header_tests b) from_charts header in
      let links = none_right (each (of_chart b) (byte b 6)) from_links charts in
      record {
        mark = passes (mark_tests b) (none_left (mark_tests b) from_header none);
        header = passes (header_tests b) (none_left (header_tests b) from_charts header);
        charts = λ k h. chart_passes b (byte b 5) (chart_place b k) (each_at (of_chart b) (byte b 6) k (none_left (each (of_chart b) (byte b 6)) from_links charts) h);
        links = λ k h. link_passes b (byte b 5) (charts_at b) (links_place b + 34 * k) (each_at (of_link b) (byte b 8) k (none_left (each (of_link b) (byte b 8)) end links) h);
        end = passes end (none_right (each (of_link b) (byte b 8)) end links);
      }

  pub book_passed : BookPasses b → fault b ≡ None
  book_passed p =
      none_join (mark_tests b) from_header (passed (mark_tests b) p.mark)
      (none_join (header_tests b) from_charts (passed (header_tests b) p.header)
      (none_join (each (of_chart b) (byte b 6)) from_links (each_none (of_chart b) (byte b 6) (λ k h. chart_passed b (byte b 5) (chart_place b k) (p.charts k h)))
      (none_join (each (of_link b) (byte b 8)) end (each_none (of_link b) (byte b 8) (λ k h. link_passed b (byte b 5) (charts_at b) (links_place b + 34 * k) (p.links k h)))
      (passed end p.end))))

-- what the tests of the header say
pub record HeaderFacts (b : List ℕ) : Type 0 where
  pub lies : 13 ≤ length b
  pub stations_least : 2 ≤ byte b 5
  pub stations_most : byte b 5 ≤ 8
  pub charts_least : 1 ≤ byte b 6
  pub charts_most : byte b 6 ≤ 32
  pub first : byte b 7 < byte b 6
  pub links : byte b 8 ≤ 128
  pub near_most : word b 9 ≤ 10000
  pub far_most : word b 11 ≤ 10000
  pub near_far : word b 9 ≤ word b 11

pub header_facts : (b : List ℕ) → Passes (header_tests b) → HeaderFacts b
header_facts b p =
    let stations = and_parts (leb 2 (byte b 5)) (leb (byte b 5) 8) p.1.0 in
    let charts = and_parts (leb 1 (byte b 6)) (leb (byte b 6) 32) p.1.1.0 in
    let q = p.1.1.1 in
    record {
      lies = leb-true 13 (length b) p.0;
      stations_least = leb-true 2 (byte b 5) stations.0;
      stations_most = leb-true (byte b 5) 8 stations.1;
      charts_least = leb-true 1 (byte b 6) charts.0;
      charts_most = leb-true (byte b 6) 32 charts.1;
      first = ltb-true (byte b 7) (byte b 6) q.0;
      links = leb-true (byte b 8) 128 q.1.0;
      near_most = leb-true (word b 9) 10000 q.1.1.0;
      far_most = leb-true (word b 11) 10000 q.1.1.1.0;
      near_far = leb-true (word b 9) (word b 11) q.1.1.1.1.0;
    }

pub header_tests_lem : (b : List ℕ) → HeaderFacts b → Passes (header_tests b)
header_tests_lem b f = (
  le-leb 13 (length b) f.lies,
  (
    and_from (leb 2 (byte b 5)) (leb (byte b 5) 8) (le-leb 2 (byte b 5) f.stations_least) (le-leb (byte b 5) 8 f.stations_most),
    (
      and_from (leb 1 (byte b 6)) (leb (byte b 6) 32) (le-leb 1 (byte b 6) f.charts_least) (le-leb (byte b 6) 32 f.charts_most),
      (
        lt-ltb (byte b 7) (byte b 6) f.first,
        (
          le-leb (byte b 8) 128 f.links,
          (
            le-leb (word b 9) 10000 f.near_most,
            (
              le-leb (word b 11) 10000 f.far_most,
              (le-leb (word b 9) (word b 11) f.near_far, tt),
            ),
          ),
        ),
      ),
    ),
  ),
)

-- the parts of a book whose bytes are b
pub record BookParts (b : List ℕ) (v : BookValue) : Type 0 where
  pub mark : Starts b 0 mark_bytes
  pub stations : byte b 5 ≡ v.stations
  pub count : byte b 6 ≡ length v.charts
  pub first : byte b 7 ≡ v.first
  pub counts : byte b 8 ≡ length v.links
  pub near : word b 9 ≡ v.near
  pub far : word b 11 ≡ v.far
  pub charts : (k : ℕ) → k < length v.charts → Starts b (chart_place b k) (chart_bytes (chart v k))
  pub links : Starts b (links_place b) (joined link_bytes v.links ++ [])

pub book_parts : (b : List ℕ) (v : BookValue) → Starts b 0 (encode v) → BookParts b v
book_parts b v s =
    let charts = joined chart_bytes v.charts in
    let links = joined link_bytes v.links in
    let body = charts ++ links in
    let n = length v.charts in
    let m = length v.links in
    let bounds = two v.near ++ two v.far in
    let header = starts_right b 0 5 mark_bytes (header_bytes v ++ body) refl s in
    let h5 = starts_left b 5 (header_bytes v) body header in
    let h6 = starts_tail b 5 6 v.stations (n ∷ v.first ∷ m ∷ bounds) refl h5 in
    let h7 = starts_tail b 6 7 n (v.first ∷ m ∷ bounds) refl h6 in
    let h8 = starts_tail b 7 8 v.first (m ∷ bounds) refl h7 in
    let h9 = starts_tail b 8 9 m bounds refl h8 in
    let count = starts_head b 6 n (v.first ∷ m ∷ bounds) h6 in
    let places = joined_places b chart_bytes no_chart v.charts links (chart_place b) (starts_right b 5 13 (header_bytes v) body refl header) (λ k h t. chart_end b (chart_place b k) (chart v k) t) in
    record {
      mark = starts_left b 0 mark_bytes (header_bytes v ++ body) s;
      stations = starts_head b 5 v.stations (n ∷ v.first ∷ m ∷ bounds) h5;
      count = count;
      first = starts_head b 7 v.first (m ∷ bounds) h7;
      counts = starts_head b 8 m bounds h8;
      near = word_read b 9 v.near (starts_left b 9 (two v.near) (two v.far) h9);
      far = word_read b 11 v.far (starts_right b 9 11 (two v.near) (two v.far) refl h9);
      charts = places.0;
      links = subst (λ x. Starts b (chart_place b x) (links ++ [])) (sym count) (subst (λ x. Starts b (chart_place b n) x) (sym (append-nil links)) places.1);
    }

-- what is read from b, counted and measured

pub charts_count : (b : List ℕ) → length (charts_at b) ≡ byte b 6
charts_count b = length-map-range_with_len (λ k. chart_at b (chart_place b k)) 0 (byte b 6)

pub links_count : (b : List ℕ) → length (book_at b).links ≡ byte b 8
links_count b = records_count (link_at b) 34 (links_place b) (byte b 8)

-- each chart begins where the one before ends
pub chart_step : (b : List ℕ) → ((k : ℕ) → k < byte b 6 → Starts b (chart_place b k) (chart_bytes (chart_at b (chart_place b k)))) → (k : ℕ) → k < byte b 6 → chart_place b (suc k) ≡ chart_place b k + length (chart_bytes (chart_at b (chart_place b k)))
chart_step b each k h = chart_end b (chart_place b k) (chart_at b (chart_place b k)) (each k h)

pub charts_end : (b : List ℕ) → ((k : ℕ) → k < byte b 6 → Starts b (chart_place b k) (chart_bytes (chart_at b (chart_place b k)))) → 13 + length (joined chart_bytes (charts_at b)) ≡ links_place b
charts_end b each = joined_ends b chart_bytes (λ k. chart_at b (chart_place b k)) (chart_place b) (byte b 6) (chart_step b each)

pub book_length : (b : List ℕ) → ((k : ℕ) → k < byte b 6 → Starts b (chart_place b k) (chart_bytes (chart_at b (chart_place b k)))) → ((k : ℕ) → k < byte b 8 → length (link_bytes (link_at b (links_place b + 34 * k))) ≡ 34) → length (encode (book_at b)) ≡ links_place b + 34 * byte b 8
book_length b each wide =
    let body = length-append (joined chart_bytes (charts_at b)) (joined link_bytes (book_at b).links) in
    let links = records_length link_bytes (link_at b) 34 (links_place b) (byte b 8) wide in
    let charts = charts_end b each in
    omega arith
