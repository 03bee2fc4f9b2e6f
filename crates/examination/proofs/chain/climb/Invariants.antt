use Rattle.examination.specs.Chains.{ClimbsTo}
use Rattle.examination.proofs.chain.climb.Given as goal

abbrev pub invariant-loop-climbed : goal.invariant-loop-climbed
invariant-loop-climbed g l = ClimbsTo (g.R.Register.rows l.register) l.initial.at l._climbed l.at
