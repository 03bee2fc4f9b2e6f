use Rattle.std.proofs.Common.{ℕ, ◌+◌, sym, subst, arith}
use Rattle.examination.specs.Chains.{ClimbsTo}
use Rattle.examination.proofs.Climbing.{climbs_none, climbs_more, climbs_stays}
use Rattle.examination.proofs.chain.climb.Goals.{in-Some, in_default}
use Rattle.examination.proofs.chain.climb.Goals as goal

pub loop-climbed-init : goal.loop-climbed-init
loop-climbed-init g c = climbs_none (g.R.Register.rows c.args.register.now) c.args.place

pub loop-climbed-preserved : goal.loop-climbed-preserved
loop-climbed-preserved g c = elim c.match-origin_at.branch [
  | in-Some w ↦
      subst (ClimbsTo (g.R.Register.rows c.args.register.now) c.args.place (c.loop-climbed._climbed + 1)) (sym w.at-is)
      (climbs_more (g.R.Register.rows c.args.register.now) c.args.place c.loop-climbed._climbed c.loop-climbed.at c.origin_at.result c.origin_at.ensures c.loop-climbed.invariant w.in-Some.origin w.in-Some.is)
  | in_default w ↦
      subst (ClimbsTo (g.R.Register.rows c.args.register.now) c.args.place (c.loop-climbed._climbed + 1)) (sym w.at-is)
      (climbs_stays (g.R.Register.rows c.args.register.now) c.args.place c.loop-climbed._climbed c.loop-climbed.at c.origin_at.result c.origin_at.ensures c.loop-climbed.invariant w.in_default.is)
]

pub returns : goal.returns
returns g c = subst (λ (n : ℕ). ClimbsTo (g.R.Register.rows c.args.register.now) c.args.place n c.loop-climbed.at) (omega arith) c.loop-climbed.invariant
