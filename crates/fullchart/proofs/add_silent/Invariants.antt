use Rattle.fullchart.specs.Finds.{SilentAdded}
use Rattle.fullchart.proofs.add_silent.Given as goal

abbrev pub invariant-loop-p : goal.invariant-loop-p
invariant-loop-p l = SilentAdded l.initial.stations l.stations l.events l.p
