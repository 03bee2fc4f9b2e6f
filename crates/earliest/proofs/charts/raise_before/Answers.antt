use Rattle.std.proofs.Common.{sym}
use Rattle.earliest.proofs.Risen.{order_met, no_order}
use Rattle.earliest.proofs.charts.raise_before.Goals as goal

pub returns-then-not-is_directly_before : goal.returns-then-not-is_directly_before
returns-then-not-is_directly_before c =
    no_order c.args.dates.now c.args.events.now c.args.first c.args.e c.args.f (sym c.if-not-is_directly_before.ensures)

pub returns : goal.returns
returns c =
    order_met c.args.events.now c.args.first c.args.e c.args.f c.requires.0 (sym c.if-not-is_directly_before.ensures) c.raise.ensures
