use Rattle.std.proofs.Common.{length}
use Rattle.earliest.specs.Raising.{Raises}
use Rattle.earliest.specs.Demands.{Each, BeforeKept}
use Rattle.earliest.proofs.charts.raise_order.Given as goal

abbrev pub invariant-loop-e : goal.invariant-loop-e
invariant-loop-e l = Raises (Each l.e (λ e. Each (length l.events) (BeforeKept l.events l.first e))) l.initial.dates l.dates l.changed
