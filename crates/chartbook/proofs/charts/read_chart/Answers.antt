use Rattle.std.proofs.Common.{◌+◌, ◌*◌, ap}
use Rattle.bookrecords.specs.declared.fields.ChartHead.{ChartHead}
use Rattle.bookrecords.proofs.Exits.{hands_on}
use Rattle.chartbook.proofs.ChartTests.{events_fail, pairs_fail, constraints_fail, order_fails, order_passes, chart_is, chart_near}
use Rattle.chartbook.proofs.charts.read_chart.Goals as goal

pub returns-in_err-events : goal.returns-in_err-events
returns-in_err-events g c =
    let h = c.in_ok-head.ensures in
    hands_on c.from_residual-in_err-events.result _ _ c.in_err-events.field-0.0 c.from_residual-in_err-events.ensures.1
    (events_fail c.args.book.now c.args.stations c.args.place c.in_ok-head.head h.1 h.0 _ c.in_err-events.ensures)

pub returns-in_err-check_pairs : goal.returns-in_err-check_pairs
returns-in_err-check_pairs g c =
    let h = c.in_ok-head.ensures in
    let e = c.in_ok-events.ensures in
    hands_on c.from_residual-in_err-check_pairs.result _ _ c.in_err-check_pairs.field-0.0 c.from_residual-in_err-check_pairs.ensures.1
    (pairs_fail c.args.book.now c.args.stations c.args.place c.in_ok-head.head h.1 h.0
    e.0 c.in_ok-events.events.items e.1 _ c.in_err-check_pairs.ensures)

pub returns-in_err-constraints : goal.returns-in_err-constraints
returns-in_err-constraints g c =
    let h = c.in_ok-head.ensures in
    let e = c.in_ok-events.ensures in
    hands_on c.from_residual-in_err-constraints.result _ _ c.in_err-constraints.field-0.0 c.from_residual-in_err-constraints.ensures.1
    (constraints_fail c.args.book.now c.args.stations c.args.place c.in_ok-head.head h.1 h.0
    e.0 c.in_ok-events.events.items e.1 c.in_ok-check_pairs.ensures.0
    c.in_err-constraints.field-0.0 c.in_err-constraints.ensures)

pub returns-then-not-is_sound : goal.returns-then-not-is_sound
returns-then-not-is_sound g c =
    let h = c.in_ok-head.ensures in
    let e = c.in_ok-events.ensures in
    order_fails c.args.book.now c.args.stations c.args.place c.in_ok-head.head h.1 h.0
    e.0 c.in_ok-events.events.items e.1 c.in_ok-check_pairs.ensures.0
    c.in_ok-constraints.ensures.0 c.is_acyclic-is_sound.result c.is_acyclic-is_sound.ensures c.if-not-is_sound.true

pub returns : goal.returns
returns g c =
    let h = c.in_ok-head.ensures in
    let e = c.in_ok-events.ensures in
    let cs = c.in_ok-constraints.ensures in
    let b = c.args.book.now in
    let place = c.args.place in
    let head = c.in_ok-head.head in (
      order_passes b c.args.stations place head h.1 h.0
          e.0 c.in_ok-events.events.items e.1 c.in_ok-check_pairs.ensures.0
          cs.0 c.is_acyclic-is_sound.result c.is_acyclic-is_sound.ensures c.if-not-is_sound.false,
      record {
        chart = chart_is b c.args.stations place head h.1 h.0 e.0 c.in_ok-events.events.items e.1 c.in_ok-constraints.constraints.items cs.1;
        next_is = ap (λ (h : ChartHead). place + 3 + 3 * h.events + 6 * h.constraints) h.1;
        near = chart_near b c.args.stations place head h.1 h.0;
      },
    )
