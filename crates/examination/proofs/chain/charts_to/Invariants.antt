use Rattle.examination.specs.Chains.{ClimbsTo}
use Rattle.examination.proofs.Climbing.{Within}
use Rattle.examination.proofs.chain.charts_to.Given as goal

abbrev pub invariant-loop-climbed : goal.invariant-loop-climbed
invariant-loop-climbed g l = ClimbsTo (g.R.Register.rows l.register) l.initial.at l.climbed l.at × Within (g.R.Register.rows l.register) l.initial.at l.climbed
