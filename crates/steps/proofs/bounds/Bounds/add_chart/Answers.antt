use Rattle.std.proofs.Common.{ap, ◌∙◌, arith}
use Rattle.bookformat.specs.Values.{ChartValue}
use Rattle.bookformat.specs.Books.{book_value}
use Rattle.bookformat.proofs.Known.{is_good}
use Rattle.paths.proofs.Facts.{chart_facts}
use Rattle.steps.proofs.Charted.{enterable, chart_added}
use Rattle.steps.proofs.bounds.Bounds.add_chart.Goals as goal

pub add_constraints-requires : goal.add_constraints-requires
add_constraints-requires c =
    let b = book_value c.args.book.now in
    let good = is_good c.args.book.now in
    record { each = enterable (chart_facts b good c.args.number) c.requires.full c.args.first (good.charts c.args.number c.requires.exists) (omega (arith, c.add_order.ensures.places, c.requires.inside)) (c.deref-2.ensures.0 ∙ ap (λ (x : ChartValue). x.constraints) c.chart-chart.ensures) }

pub returns : goal.returns
returns c =
    let facts = chart_facts (book_value c.args.book.now) (is_good c.args.book.now) c.args.number in
    chart_added facts c.requires.full c.args.first (c.deref.ensures.0 ∙ ap (λ (x : ChartValue). x.events) c.chart-chart.ensures) (c.deref-2.ensures.0 ∙ ap (λ (x : ChartValue). x.constraints) c.chart-chart.ensures) c.add_order.ensures c.add_constraints.ensures c.add_drifts.ensures
