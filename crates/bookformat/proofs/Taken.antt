-- Bytes that pass every test are those of a good book.
use Rattle.std.proofs.Common.{◌≡◌, ℕ, ◌+◌, ◌*◌, ◌<◌, ◌≤◌, ◌&&◌, eqb, List, [], ◌∷◌, ◌++◌, length, sym, refl, subst, arith}
use Rattle.std.proofs.lemmas.List.FromFn.{get_or-map-range_with_len}
use Rattle.std.proofs.lemmas.Bool.{leb-true, eqb-true, and_parts}
use Rattle.bookformat.specs.Encoding.{two, joined, chart_bytes, link_bytes, mark_bytes, header_bytes, encode}
use Rattle.bookformat.specs.Rules.{no_chart, no_link, GoodChart, GoodLink, GoodBook}
use Rattle.bookformat.specs.Layout.{byte, word, link_at, chart_at, chart_place, charts_at, links_place, book_at}
use Rattle.bookformat.specs.Reading.{mark_tests}
use Rattle.bookformat.specs.Laws.{Octets, TakenGood}
use Rattle.bookformat.proofs.Faults.{Passes}
use Rattle.bookformat.proofs.Parts.{Starts, starts_nil, starts_cons, starts_join, starts_whole, joined_starts}
use Rattle.bookformat.proofs.Records.{word_starts, length_link, link_starts, records_starts, records_at}
use Rattle.bookformat.proofs.Charts.{chart_starts, chart_good}
use Rattle.bookformat.proofs.Links.{link_good}
use Rattle.bookformat.proofs.Books.{BookPasses, book_passes, header_facts, charts_count, links_count, chart_step, charts_end, book_length}

mark_starts : (b : List ℕ) → Passes (mark_tests b) → Starts b 0 mark_bytes
mark_starts b p =
    let letters = and_parts (eqb (byte b 0) 0x54 && eqb (byte b 1) 0x43) (eqb (byte b 2) 0x4d) p.1.0 in
    let front = and_parts (eqb (byte b 0) 0x54) (eqb (byte b 1) 0x43) letters.0 in
    let version = and_parts (eqb (byte b 3) 0) (eqb (byte b 4) 1) p.1.1.0 in
    starts_cons b 0 1 0x54 (0x43 ∷ 0x4d ∷ 0 ∷ 1 ∷ []) refl (eqb-true (byte b 0) 0x54 front.0)
    (starts_cons b 1 2 0x43 (0x4d ∷ 0 ∷ 1 ∷ []) refl (eqb-true (byte b 1) 0x43 front.1)
    (starts_cons b 2 3 0x4d (0 ∷ 1 ∷ []) refl (eqb-true (byte b 2) 0x4d letters.1)
    (starts_cons b 3 4 0 (1 ∷ []) refl (eqb-true (byte b 3) 0 version.0)
    (starts_cons b 4 5 1 [] refl (eqb-true (byte b 4) 1 version.1) (starts_nil b 5 (leb-true 5 (length b) p.0))))))

header_starts : (b : List ℕ) → Octets b → 13 ≤ length b → Starts b 5 (header_bytes (book_at b))
header_starts b o l =
    let n = length (charts_at b) in
    let m = length (book_at b).links in
    let bounds = two (word b 9) ++ two (word b 11) in
    starts_cons b 5 6 (byte b 5) (n ∷ byte b 7 ∷ m ∷ bounds) refl refl
    (starts_cons b 6 7 n (byte b 7 ∷ m ∷ bounds) refl (sym (charts_count b))
    (starts_cons b 7 8 (byte b 7) (m ∷ bounds) refl refl
    (starts_cons b 8 9 m bounds refl (sym (links_count b))
    (starts_join b 9 11 (two (word b 9)) (two (word b 11)) refl (word_starts b 9 o (omega arith)) (word_starts b 11 o l)))))

-- the bytes
same_bytes : (b : List ℕ) → Octets b → BookPasses b → encode (book_at b) ≡ b
same_bytes b o p =
    let v = book_at b in
    let n = byte b 6 in
    let m = byte b 8 in
    let header = header_facts b p.header in
    let each : (k : ℕ) → k < n → Starts b (chart_place b k) (chart_bytes (chart_at b (chart_place b k))) = λ k h. chart_starts b (byte b 5) (chart_place b k) o (p.charts k h) in
    let charts = joined chart_bytes (charts_at b) in
    let links = joined link_bytes v.links in
    let charted : Starts b 13 charts = joined_starts b chart_bytes (λ k. chart_at b (chart_place b k)) (chart_place b) n header.lies (chart_step b each) each in
    let ends : 13 + length charts ≡ links_place b = charts_end b each in
    let wide : (k : ℕ) → k < m → length (link_bytes (link_at b (links_place b + 34 * k))) ≡ 34 = λ k h. length_link (link_at b (links_place b + 34 * k)) (link_good b v (links_place b + 34 * k) (p.links k h)).eight in
    let linked : Starts b (links_place b) links =
    records_starts b link_bytes (link_at b) 34 (links_place b) m (omega (arith, charted.within)) wide
    (λ k h. link_starts b (links_place b + 34 * k) o (leb-true (links_place b + 34 * k + 34) (length b) (p.links k h).first.0)) in
    let last : length b ≤ links_place b + 34 * m = leb-true (length b) (links_place b + 34 * m) p.end.0 in
    let whole : Starts b 0 (encode v) =
    starts_join b 0 5 mark_bytes (header_bytes v ++ (charts ++ links)) refl (mark_starts b p.mark)
    (starts_join b 5 13 (header_bytes v) (charts ++ links) refl (header_starts b o header.lies) (starts_join b 13 (links_place b) charts links ends charted linked)) in
    starts_whole b (encode v) whole (let l = book_length b each wide in let w = whole.within in omega arith)

-- the rules
pub good_book : (b : List ℕ) → BookPasses b → GoodBook (book_at b)
good_book b p =
    let v = book_at b in
    let header = header_facts b p.header in
    let count = charts_count b in
    let counts = links_count b in
    record {
      stations_least = header.stations_least;
      stations_most = header.stations_most;
      charts_least = omega (arith, header.charts_least);
      charts_most = omega (arith, header.charts_most);
      first_exists = omega (arith, header.first);
      links_most = omega (arith, header.links);
      far_most = header.far_most;
      near_far = header.near_far;
      charts = λ c h.
          let l : c < byte b 6 = omega arith in
          subst (λ x. GoodChart (byte b 5) x) (sym (get_or-map-range_with_len (λ k. chart_at b (chart_place b k)) 0 (byte b 6) c c no_chart l (omega arith)))
          (chart_good b (byte b 5) (chart_place b c) (p.charts c l));
      links = λ k h.
          let l : k < byte b 8 = omega arith in
          subst (λ x. GoodLink v x) (sym (records_at (link_at b) no_link 34 (links_place b) (byte b 8) k l)) (link_good b v (links_place b + 34 * k) (p.links k l));
    }

pub taken_good : TakenGood
taken_good b o none = let p = book_passes b none in (same_bytes b o p, good_book b p)
