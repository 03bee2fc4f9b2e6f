-- The bytes of a good book are read as that book, and pass every test.
use Rattle.std.proofs.Common.{◌≡◌, ℕ, ◌+◌, ◌*◌, ◌<◌, ◌&&◌, eqb, List, [], ◌∷◌, ◌++◌, map, length, get_or, sym, refl, ap, ◌∙◌, subst, arith}
use Rattle.std.specs.List.{range_with_len}
use Rattle.std.proofs.lemmas.List.FromFn.{get_or-map-range_with_len, fill_by_all}
use Rattle.std.proofs.lemmas.List.{length-append}
use Rattle.std.proofs.lemmas.Bool.{le-leb, eq-eqb, and_from}
use Rattle.bookformat.specs.declared.value.Link.{Link}
use Rattle.bookformat.specs.Values.{ChartValue, BookValue}
use Rattle.bookformat.specs.Encoding.{joined, chart_bytes, link_bytes, mark_bytes, header_bytes, encode}
use Rattle.bookformat.specs.Rules.{no_chart, no_link, chart, GoodChart, GoodLink, GoodBook}
use Rattle.bookformat.specs.Layout.{byte, word, records, link_at, chart_at, chart_place, charts_at, links_place, book_at}
use Rattle.bookformat.specs.Reading.{mark_tests}
use Rattle.bookformat.specs.Laws.{GoodTaken}
use Rattle.bookformat.proofs.Faults.{Passes}
use Rattle.bookformat.proofs.Parts.{Starts, starts_head, starts_tail, starts_self}
use Rattle.bookformat.proofs.Records.{length_link, link_read, records_places, records_read, records_at}
use Rattle.bookformat.proofs.Charts.{chart_tested, chart_read}
use Rattle.bookformat.proofs.Links.{link_tested}
use Rattle.bookformat.proofs.Books.{BookPasses, book_passed, header_tests_lem, book_parts, charts_count, links_count, book_length}

same_book : (s t e f m n u w : ℕ) (cs ds : List ChartValue) (ks ls : List Link) → s ≡ t → e ≡ f → m ≡ n → u ≡ w → cs ≡ ds → ks ≡ ls → ◌≡◌ {A = BookValue} (record { stations = s; first = e; near = m; far = u; charts = cs; links = ks }) (record { stations = t; first = f; near = n; far = w; charts = ds; links = ls })
same_book s t e f m n u w cs ds ks ls p q x y z o = cc

-- the width of each link of a good book
wide : (v : BookValue) → GoodBook v → (k : ℕ) → k < length v.links → length (link_bytes (get_or v.links k no_link)) ≡ 34
wide v good k h = length_link (get_or v.links k no_link) (good.links k h).eight

pub book_read : (b : List ℕ) (v : BookValue) → GoodBook v → Starts b 0 (encode v) → book_at b ≡ v
book_read b v good s =
    let parts = book_parts b v s in
    let charts : charts_at b ≡ v.charts =
    ap (λ n. map (λ k. chart_at b (chart_place b k)) (range_with_len 0 n)) parts.count
    ∙ sym (fill_by_all (λ k. chart_at b (chart_place b k)) v.charts (length v.charts) no_chart refl
    (λ k h. sym (chart_read b v.stations (chart_place b k) (chart v k) (good.charts k h) (parts.charts k h)))) in
    let links : (book_at b).links ≡ v.links =
    ap (records (link_at b) 34 (links_place b)) parts.counts
    ∙ records_read b link_bytes (link_at b) no_link v.links [] 34 (links_place b) parts.links (wide v good)
    (λ k j h x. let g = good.links k h in link_read b j (get_or v.links k no_link) g.eight g.proper x) in
    same_book (byte b 5) v.stations (byte b 7) v.first (word b 9) v.near (word b 11) v.far (charts_at b) v.charts (book_at b).links v.links parts.stations parts.first parts.near parts.far charts links

mark_tests_lem : (b : List ℕ) → Starts b 0 mark_bytes → Passes (mark_tests b)
mark_tests_lem b s =
    let s1 = starts_tail b 0 1 0x54 (0x43 ∷ 0x4d ∷ 0 ∷ 1 ∷ []) refl s in
    let s2 = starts_tail b 1 2 0x43 (0x4d ∷ 0 ∷ 1 ∷ []) refl s1 in
    let s3 = starts_tail b 2 3 0x4d (0 ∷ 1 ∷ []) refl s2 in
    let s4 = starts_tail b 3 4 0 (1 ∷ []) refl s3 in
    let t = eq-eqb (byte b 0) 0x54 (starts_head b 0 0x54 (0x43 ∷ 0x4d ∷ 0 ∷ 1 ∷ []) s) in
    let c = eq-eqb (byte b 1) 0x43 (starts_head b 1 0x43 (0x4d ∷ 0 ∷ 1 ∷ []) s1) in
    let m = eq-eqb (byte b 2) 0x4d (starts_head b 2 0x4d (0 ∷ 1 ∷ []) s2) in
    let high = eq-eqb (byte b 3) 0 (starts_head b 3 0 (1 ∷ []) s3) in
    let low = eq-eqb (byte b 4) 1 (starts_head b 4 1 [] s4) in (
      le-leb 5 (length b) s.within,
      (
        and_from (eqb (byte b 0) 0x54 && eqb (byte b 1) 0x43) (eqb (byte b 2) 0x4d) (and_from (eqb (byte b 0) 0x54) (eqb (byte b 1) 0x43) t c) m,
        (and_from (eqb (byte b 3) 0) (eqb (byte b 4) 1) high low, tt),
      ),
    )

-- bytes that are those of the good book that is read from them pass every test
book_tested : (b : List ℕ) → encode (book_at b) ≡ b → GoodBook (book_at b) → BookPasses b
book_tested b same good =
    let v = book_at b in
    let s : Starts b 0 (encode v) = subst (λ x. Starts b 0 x) (sym same) (starts_self b) in
    let parts = book_parts b v s in
    let count : length v.charts ≡ byte b 6 = charts_count b in
    let counts : length v.links ≡ byte b 8 = links_count b in
    let each : (k : ℕ) → k < byte b 6 → chart v k ≡ chart_at b (chart_place b k) = λ k h. get_or-map-range_with_len (λ j. chart_at b (chart_place b j)) 0 (byte b 6) k k no_chart h (omega arith) in
    let each' : (k : ℕ) → k < byte b 8 → get_or v.links k no_link ≡ link_at b (links_place b + 34 * k) = λ k h. records_at (link_at b) no_link 34 (links_place b) (byte b 8) k h in
    let charted : (k : ℕ) → k < byte b 6 → Starts b (chart_place b k) (chart_bytes (chart_at b (chart_place b k))) =
    λ k h. let l : k < length v.charts = omega arith in subst (λ x. Starts b (chart_place b k) (chart_bytes x)) (each k h) (parts.charts k l) in
    let broad : (k : ℕ) → k < byte b 8 → length (link_bytes (link_at b (links_place b + 34 * k))) ≡ 34 =
    λ k h. let l : k < length v.links = omega arith in subst (λ x. length (link_bytes x) ≡ 34) (each' k h) (wide v good k l) in
    let places = records_places b link_bytes no_link v.links [] 34 (links_place b) parts.links (wide v good) in
    record {
      mark = mark_tests_lem b parts.mark;
      header = header_tests_lem b (record {
        lies = omega (arith, s.within, length-append (header_bytes v) (joined chart_bytes v.charts ++ joined link_bytes v.links));
        stations_least = good.stations_least;
        stations_most = good.stations_most;
        charts_least = omega (arith, good.charts_least);
        charts_most = omega (arith, good.charts_most);
        first = omega (arith, good.first_exists);
        links = omega (arith, good.links_most);
        near_most = omega (arith, good.near_far, good.far_most);
        far_most = good.far_most;
        near_far = good.near_far;
      });
      charts = λ k h.
          let l : k < length v.charts = omega arith in
          chart_tested b (byte b 5) (chart_place b k) (charted k h) (subst (λ x. GoodChart (byte b 5) x) (each k h) (good.charts k l));
      links = λ k h.
          let l : k < length v.links = omega arith in
          let at = links_place b + 34 * k in
          link_tested b v at (subst (λ x. Starts b at (link_bytes x)) (each' k h) (places.0 k l)) (subst (λ x. GoodLink v x) (each' k h) (good.links k l));
      end = (le-leb (length b) (links_place b + 34 * byte b 8) (let l = book_length b charted broad in let e = ap length same in omega arith), tt);
    }

pub good_taken : GoodTaken
good_taken v good =
    let b = encode v in
    let read = book_read b v good (starts_self b) in
    book_passed b (book_tested b (ap encode read) (subst (λ x. GoodBook x) (sym read) good))

pub good_read : (v : BookValue) → GoodBook v → book_at (encode v) ≡ v
good_read v good = book_read (encode v) v good (starts_self (encode v))
