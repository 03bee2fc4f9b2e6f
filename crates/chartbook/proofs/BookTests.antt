-- The tests of a book, from those of its parts.
use Rattle.std.proofs.Common.{◌≡◌, ℕ, ◌+◌, ◌*◌, List, ◌++◌, map, Some, None, sym, ap, ◌∙◌}
use Rattle.std.specs.List.{range_with_len}
use Rattle.bookformat.specs.Bounded.{Bounded}
use Rattle.bookformat.specs.declared.fault.Fault.{Fault}
use Rattle.bookformat.specs.declared.value.Chart.{Chart}
use Rattle.bookformat.specs.declared.value.Link.{Link}
use Rattle.bookformat.specs.Values.{ChartValue, BookValue, chart_value}
use Rattle.bookformat.specs.Layout.{byte, word, chart_at, chart_place, charts_at, link_at, links_place, records, book_at}
use Rattle.bookformat.specs.Reading.{Test, first_fault, each, chart_tests, link_tests, mark_tests, header_tests, book_charts, book_links, end_tests, reading}
use Rattle.bookformat.proofs.Faults.{fault_left, fault_right}
use Rattle.bookrecords.specs.declared.fields.Header.{Header}
use Rattle.chartbook.specs.Answers.{ChartsRead}
use Rattle.bookrecords.specs.Headers.{header_at}

module _ (b : List ℕ) (header : Header) (is : header ≡ header_at b) (header-passed : first_fault (mark_tests b ++ header_tests b) ≡ None) where
  abbrev end : List Test
  end = end_tests b (links_place b + 34 * byte b 8)

  to_charts : first_fault (reading b) ≡ first_fault (book_charts b ++ (book_links b ++ end))
  to_charts = fault_right (mark_tests b ++ header_tests b) (book_charts b ++ (book_links b ++ end)) header-passed

  charts_are : each (λ k. chart_tests b header.stations (chart_place b k)) header.charts ≡ book_charts b
  charts_are = ap (λ (h : Header). each (λ k. chart_tests b h.stations (chart_place b k)) h.charts) is

  pub charts_fail : (f : Fault) → first_fault (each (λ k. chart_tests b header.stations (chart_place b k)) header.charts) ≡ Some f → first_fault (reading b) ≡ Some f
  charts_fail f here = to_charts ∙ fault_left (book_charts b) (book_links b ++ end) f (sym (ap first_fault charts_are) ∙ here)

  -- the charts that were read, and the place behind them
  module _ (charts-passed : first_fault (each (λ k. chart_tests b header.stations (chart_place b k)) header.charts) ≡ None) (cs : Bounded Chart 32) (place : ℕ) (read : ChartsRead b header.charts cs place) where
    to_links : first_fault (reading b) ≡ first_fault (book_links b ++ end)
    to_links = to_charts ∙ fault_right (book_charts b) (book_links b ++ end) (sym (ap first_fault charts_are) ∙ charts-passed)

    values_are : map chart_value cs.items ≡ charts_at b
    values_are = read.charts ∙ ap (λ (h : Header). map (λ k. chart_at b (chart_place b k)) (range_with_len 0 h.charts)) is

    place_is : place ≡ links_place b
    place_is = read.next_is ∙ ap (λ (h : Header). chart_place b h.charts) is

    links_are : each (λ k. link_tests b header.stations (map chart_value cs.items) (place + 34 * k)) header.links ≡ book_links b
    links_are =
        ap (λ (vs : List ChartValue). each (λ k. link_tests b header.stations vs (place + 34 * k)) header.links) values_are
        ∙ ap (λ p. each (λ k. link_tests b header.stations (charts_at b) (p + 34 * k)) header.links) place_is
        ∙ ap (λ (h : Header). each (λ k. link_tests b h.stations (charts_at b) (links_place b + 34 * k)) h.links) is

    pub links_fail : (f : Fault) → first_fault (each (λ k. link_tests b header.stations (map chart_value cs.items) (place + 34 * k)) header.links) ≡ Some f → first_fault (reading b) ≡ Some f
    links_fail f here = to_links ∙ fault_left (book_links b) end f (sym (ap first_fault links_are) ∙ here)

    module _ (links-passed : first_fault (each (λ k. link_tests b header.stations (map chart_value cs.items) (place + 34 * k)) header.links) ≡ None) where
      pub to_end : first_fault (reading b) ≡ first_fault (end_tests b (place + 34 * header.links))
      to_end =
          to_links ∙ fault_right (book_links b) end (sym (ap first_fault links_are) ∙ links-passed)
          ∙ sym (ap (λ n. first_fault (end_tests b n)) (ap (λ p. p + 34 * header.links) place_is ∙ ap (λ (h : Header). links_place b + 34 * h.links) is))

    same_book : (s f n r : ℕ) (vs ws : List ChartValue) (ls ms : List Link) → s ≡ byte b 5 → f ≡ byte b 7 → n ≡ word b 9 → r ≡ word b 11 → vs ≡ ws → ls ≡ ms → ◌≡◌ {A = BookValue} (record { stations = s; first = f; near = n; far = r; charts = vs; links = ls }) (record { stations = byte b 5; first = byte b 7; near = word b 9; far = word b 11; charts = ws; links = ms })
    same_book s f n r vs ws ls ms e1 e2 e3 e4 e5 e6 = cc

    pub book_is : (ls : List Link) → ls ≡ records (link_at b) 34 place header.links → ◌≡◌ {A = BookValue} (record { stations = header.stations; first = header.first; near = header.near; far = header.far; charts = map chart_value cs.items; links = ls }) (book_at b)
    book_is ls links-read =
        same_book header.stations header.first header.near header.far (map chart_value cs.items) (charts_at b) ls (records (link_at b) 34 (links_place b) (byte b 8))
        (ap (λ (h : Header). h.stations) is) (ap (λ (h : Header). h.first) is) (ap (λ (h : Header). h.near) is) (ap (λ (h : Header). h.far) is) values_are
        (links-read ∙ ap (λ p. records (link_at b) 34 p header.links) place_is ∙ ap (λ (h : Header). records (link_at b) 34 (links_place b) h.links) is)
