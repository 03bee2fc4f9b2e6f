use Rattle.fullchart.specs.Finds.{WorkingHeld}
use Rattle.fullchart.proofs.working_stations.Given as goal

abbrev pub invariant-loop-e : goal.invariant-loop-e
invariant-loop-e l = WorkingHeld l.events l.e-index l.stations
