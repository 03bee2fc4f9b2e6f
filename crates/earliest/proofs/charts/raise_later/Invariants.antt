use Rattle.earliest.specs.Raising.{Raises}
use Rattle.earliest.specs.Demands.{Each, BeforeKept}
use Rattle.earliest.proofs.charts.raise_later.Given as goal

abbrev pub invariant-loop-f : goal.invariant-loop-f
invariant-loop-f l = Raises (Each l.f (BeforeKept l.events l.first l.e)) l.initial.dates l.dates l.changed
