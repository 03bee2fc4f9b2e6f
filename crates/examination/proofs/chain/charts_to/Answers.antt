use Rattle.std.proofs.Common.{arith}
use Rattle.examination.proofs.Climbing.{below, climbs_none, climbs_more, climbs_further, climbs_stop}
use Rattle.examination.proofs.chain.charts_to.Goals as goal

pub loop-climbed-init : goal.loop-climbed-init
loop-climbed-init g c = (climbs_none (g.R.Register.rows c.args.register.now) c.args.place, λ b path t. omega arith)

pub returns-in-None : goal.returns-in-None
returns-in-None g c = λ b path t.
    let within = c.loop-climbed.invariant.1 b path t in
    let e = climbs_stop (g.R.Register.rows c.args.register.now) c.args.place c.loop-climbed.climbed c.loop-climbed.at c.origin_at.result c.origin_at.ensures c.loop-climbed.invariant.0 c.in-None.is b path t within in
    omega (arith, c.from.ensures)

pub loop-climbed-preserved : goal.loop-climbed-preserved
loop-climbed-preserved g c = (
  climbs_more (g.R.Register.rows c.args.register.now) c.args.place c.loop-climbed.climbed c.loop-climbed.at c.origin_at.result c.origin_at.ensures c.loop-climbed.invariant.0 c.in-Some.origin c.in-Some.is,
  λ b path t. climbs_further (g.R.Register.rows c.args.register.now) c.args.place c.loop-climbed.climbed c.loop-climbed.at c.origin_at.result c.origin_at.ensures c.loop-climbed.invariant.0 c.in-Some.origin c.in-Some.is b path t (c.loop-climbed.invariant.1 b path t),
)

pub returns : goal.returns
returns g c = λ b path t.
    let within = c.loop-climbed.invariant.1 b path t in
    let low = below b (g.R.Register.rows c.args.register.now) c.args.place path t in
    absurd (omega arith)
