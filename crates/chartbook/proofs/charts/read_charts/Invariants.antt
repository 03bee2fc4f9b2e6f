use Rattle.std.proofs.Common.{◌≡◌, None}
use Rattle.bookformat.specs.Bounded.{bounded_len}
use Rattle.bookformat.specs.Layout.{chart_place}
use Rattle.bookformat.specs.Reading.{first_fault, each, chart_tests}
use Rattle.chartbook.specs.Answers.{ChartsRead}
use Rattle.chartbook.proofs.charts.read_charts.Given as goal

abbrev pub invariant-loop-k : goal.invariant-loop-k
invariant-loop-k g l =
    (first_fault (each (λ k. chart_tests l.book l.stations (chart_place l.book k)) l.k) ≡ None)
    × ChartsRead l.book l.k l.charts l.place
    × (bounded_len l.charts ≡ l.k)
