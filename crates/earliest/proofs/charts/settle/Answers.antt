use Rattle.std.proofs.Common.{false}
use Rattle.earliest.proofs.Risen.{nothing, again, onward}
use Rattle.earliest.proofs.charts.settle.Goals as goal

pub loop-init : goal.loop-init
loop-init c = (false, nothing _ _)

pub loop-preserved : goal.loop-preserved
loop-preserved c = (_, onward c.loop.invariant.1 c.raise_chart-in-loop.ensures)

pub returns-then-not-raise_chart-2 : goal.returns-then-not-raise_chart-2
returns-then-not-raise_chart-2 c = again c.if-not-raise_chart.ensures (onward c.loop.invariant.1 c.raise_chart-in-loop.ensures)

pub returns : goal.returns
returns c = again c.if-not-raise_chart.ensures c.loop.invariant.1
