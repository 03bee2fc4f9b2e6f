use Rattle.std.proofs.Common.{◌≡◌, ℕ, ◌+◌, List, Some, None, refl, ap, length, ◌∙◌, subst}
use Rattle.bookformat.specs.Layout.{chart_place}
use Rattle.bookformat.specs.Reading.{Test, first_fault, chart_tests}
use Rattle.bookformat.proofs.Faults.{each_fails, each_passes}
use Rattle.bookrecords.proofs.Exits.{hands_on}
use Rattle.chartbook.proofs.ChartLists.{charts_none, charts_more}
use Rattle.chartbook.proofs.charts.read_charts.Goals as goal

pub loop-k-init : goal.loop-k-init
loop-k-init g c = (refl, charts_none c.args.book.now c.default-charts.result c.default-charts.ensures, ap length c.default-charts.ensures)

pub returns-in_err-chart : goal.returns-in_err-chart
returns-in_err-chart g c =
    let b = c.args.book.now in
    let tests : ℕ → List Test = λ k. chart_tests b c.args.stations (chart_place b k) in
    hands_on c.from_residual.result _ _ c.in_err-chart.field-0.0 c.from_residual.ensures.1
    (each_fails tests c.args.count c.loop-k.k _ c.loop-k-test.true c.loop-k.invariant.0
    (subst (λ p. first_fault (chart_tests b c.args.stations p) ≡ Some c.in_err-chart.field-0.0) c.loop-k.invariant.1.next_is c.in_err-chart.ensures))

pub loop-k-preserved : goal.loop-k-preserved
loop-k-preserved g c =
    let b = c.args.book.now in
    let tests : ℕ → List Test = λ k. chart_tests b c.args.stations (chart_place b k) in
    let read = c.in_ok-chart.ensures in (
      each_passes tests c.loop-k.k c.loop-k.invariant.0 (subst (λ p. first_fault (chart_tests b c.args.stations p) ≡ None) c.loop-k.invariant.1.next_is read.0),
      charts_more b c.loop-k.k c.loop-k.place c.in_ok-chart.next c.loop-k.charts c.push.new.self c.in_ok-chart.chart c.loop-k.invariant.1 c.push.ensures.items read.1,
      c.push.ensures.len ∙ ap (λ n. n + 1) c.loop-k.invariant.2,
    )
