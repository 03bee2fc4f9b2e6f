use Rattle.earliest.specs.Raising.{Raises}
use Rattle.earliest.specs.Demands.{Each, ConstraintKept}
use Rattle.earliest.proofs.charts.raise_constraints.Given as goal

abbrev pub invariant-loop-c : goal.invariant-loop-c
invariant-loop-c l = Raises (Each l.c-index (ConstraintKept l.constraints l.first)) l.initial.dates l.dates l.changed
