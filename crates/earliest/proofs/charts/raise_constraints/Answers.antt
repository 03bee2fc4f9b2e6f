use Rattle.std.proofs.Common.{refl}
use Rattle.earliest.proofs.Risen.{one_more, constraint_met}
use Rattle.earliest.proofs.charts.raise_constraints.Goals as goal

pub loop-c-preserved : goal.loop-c-preserved
loop-c-preserved c =
    one_more _ c.loop-c.c-index c.loop-c.invariant (constraint_met c.args.constraints.now c.args.first c.loop-c.c-index _ _ _ c.from.ensures c.from-in-loop-c.ensures refl c.raise_interval-changed.ensures)
