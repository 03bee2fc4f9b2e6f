-- The charts read so far, one more at a time.
use Rattle.std.proofs.Common.{◌≡◌, ℕ, ◌+◌, ◌*◌, List, [], ◌∷◌, ◌++◌, map, sym, refl, ap, ◌∙◌, zero-add, add-one, arith}
use Rattle.std.specs.List.{range_with_len}
use Rattle.std.proofs.lemmas.List.FromFn.{map-range_with_len_more}
use Rattle.std.proofs.lemmas.List.{map-append}
use Rattle.bookformat.specs.Bounded.{Bounded}
use Rattle.bookformat.specs.declared.value.Chart.{Chart}
use Rattle.bookformat.specs.Values.{ChartValue, chart_value}
use Rattle.bookformat.specs.Layout.{byte, chart_at, chart_place, constraints_place}
use Rattle.chartbook.specs.Answers.{ChartRead, ChartsRead}

pub charts_none : (b : List ℕ) (cs : Bounded Chart 32) → cs.items ≡ [] → ChartsRead b 0 cs 13
charts_none b cs none = record { charts = ap (map chart_value) none; next_is = refl; near = omega arith }

pub charts_more : (b : List ℕ) (k place next : ℕ) (cs cs' : Bounded Chart 32) (c : Chart) → ChartsRead b k cs place → cs'.items ≡ cs.items ++ c ∷ [] → ChartRead b place c next → ChartsRead b (k + 1) cs' next
charts_more b k place next cs cs' c so_far pushed read = record {
  charts =
      ap (map chart_value) pushed ∙ map-append chart_value cs.items (c ∷ [])
      ∙ ap (λ (l : List ChartValue). l ++ chart_value c ∷ []) so_far.charts
      ∙ ap (λ (v : ChartValue). map (λ j. chart_at b (chart_place b j)) (range_with_len 0 k) ++ v ∷ []) (read.chart ∙ ap (chart_at b) so_far.next_is)
      ∙ sym (map-range_with_len_more (λ j. chart_at b (chart_place b j)) 0 k k (zero-add k));
  next_is = read.next_is ∙ ap (λ p. constraints_place b p + 6 * byte b (p + 1)) so_far.next_is ∙ ap (chart_place b) (sym (add-one k));
  near = omega (arith, read.near, so_far.near);
}
