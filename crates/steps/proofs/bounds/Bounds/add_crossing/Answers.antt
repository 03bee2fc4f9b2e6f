use Rattle.std.proofs.Common.{arith}
use Rattle.steps.proofs.Entered.{crossing_entered}
use Rattle.steps.proofs.bounds.Bounds.add_crossing.Goals as goal

pub returns-in-Some : goal.returns-in-Some
returns-in-Some c = crossing_entered c.args.events.now c.args.stations c.in-Some.ensures (omega arith) (omega arith) c.add_interval.ensures
