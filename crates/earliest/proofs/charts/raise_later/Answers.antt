use Rattle.earliest.proofs.Risen.{one_more}
use Rattle.earliest.proofs.charts.raise_later.Goals as goal

pub loop-f-preserved : goal.loop-f-preserved
loop-f-preserved c = one_more _ c.loop-f.f c.loop-f.invariant c.raise_before-changed.ensures
