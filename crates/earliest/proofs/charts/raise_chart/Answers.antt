use Rattle.std.proofs.Common.{ℕ, ◌<◌, List, length, sym, ap, ◌∙◌, subst, arith}
use Rattle.bookformat.specs.declared.value.Constraint.{Constraint}
use Rattle.bookformat.specs.Values.{ChartValue}
use Rattle.bookformat.specs.Books.{book_value}
use Rattle.bookformat.proofs.Known.{is_good}
use Rattle.earliest.specs.Demands.{Meetable}
use Rattle.earliest.proofs.Charted.{events_inside, constraints_inside, stations_inside, chart_met}
use Rattle.earliest.proofs.charts.raise_chart.Goals as goal

pub raise_order-changed-requires : goal.raise_order-changed-requires
raise_order-changed-requires c =
    let is = c.deref.ensures.0 ∙ ap (λ (v : ChartValue). v.events) c.chart-chart.ensures in
    omega (arith, ap length is, events_inside (book_value c.args.book.now) (is_good c.args.book.now) c.args.stop.now (length c.args.dates.now) c.requires)

pub raise_constraints-changed-requires : goal.raise_constraints-changed-requires
raise_constraints-changed-requires c =
    let is = c.deref-2.ensures.0 ∙ ap (λ (v : ChartValue). v.constraints) c.chart-chart.ensures in
    subst (λ (n : ℕ). (k : ℕ) → k < length c.deref-2.result.now → Meetable n c.deref-2.result.now c.args.stop.now.first k) (sym c.raise_order-changed.ensures.long)
    (subst (λ (cs : List Constraint). (k : ℕ) → k < length cs → Meetable (length c.args.dates.now) cs c.args.stop.now.first k) (sym is)
    (constraints_inside (book_value c.args.book.now) (is_good c.args.book.now) c.args.stop.now (length c.args.dates.now) c.requires))

pub raise_drift-changed-requires : goal.raise_drift-changed-requires
raise_drift-changed-requires c =
    omega (arith, c.raise_order-changed.ensures.long, c.raise_constraints-changed.ensures.long, stations_inside (book_value c.args.book.now) (is_good c.args.book.now) c.args.stop.now (length c.args.dates.now) c.requires)

pub returns : goal.returns
returns c =
    let events_are = c.deref.ensures.0 ∙ ap (λ (v : ChartValue). v.events) c.chart-chart.ensures in
    let constraints_are = c.deref-2.ensures.0 ∙ ap (λ (v : ChartValue). v.constraints) c.chart-chart.ensures in
    chart_met (book_value c.args.book.now) (is_good c.args.book.now) c.args.stop.now (length c.args.dates.now) c.requires
    c.deref.result.now c.deref-2.result.now events_are constraints_are c.raise_order-changed.ensures c.raise_constraints-changed.ensures c.raise_drift-changed.ensures
