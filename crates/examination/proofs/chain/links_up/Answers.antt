use Rattle.std.proofs.Common.{ℕ, ◌+◌, length, ap, ◌∙◌, sym, subst, arith}
use Rattle.examination.specs.Chains.{ClimbsTo}
use Rattle.examination.proofs.Climbing.{climbs_none, climbs_more, gathered_none, gathered_more, gathered_top, gathered_whole}
use Rattle.examination.proofs.chain.links_up.Goals as goal

pub loop-climbed-init : goal.loop-climbed-init
loop-climbed-init g c =
    let rows = g.R.Register.rows c.args.register.now in
    let none = ap length c.new-links.ensures in
    (none, subst (λ (n : ℕ). ClimbsTo rows c.args.place n c.args.place) (sym none) (climbs_none rows c.args.place), gathered_none rows c.args.place c.new-links.result.items c.new-links.ensures)

pub loop-climbed-preserved : goal.loop-climbed-preserved
loop-climbed-preserved g c =
    let rows = g.R.Register.rows c.args.register.now in
    let links = c.loop-climbed.links.items in
    let at = c.loop-climbed.at in
    let climbs = c.loop-climbed.invariant.1 in
    let origin = c.in-Some.origin in (
      c.push.ensures.len ∙ ap (λ n. n + 1) c.loop-climbed.invariant.0,
      subst (λ (n : ℕ). ClimbsTo rows c.args.place n origin.row) (sym c.push.ensures.len) (climbs_more rows c.args.place (length links) at c.origin_at.result c.origin_at.ensures climbs origin c.in-Some.is),
      gathered_more rows c.args.place at c.origin_at.result links c.origin_at.ensures climbs c.loop-climbed.invariant.2 origin c.push.new.self.items c.in-Some.is c.push.ensures.items,
    )

pub returns-after-loop-climbed : goal.returns-after-loop-climbed
returns-after-loop-climbed g c =
    let most = g.met.R.Register.limited c.args.register.now in
    let few = g.met.R.Register.within c.args.register.now in
    gathered_whole (g.R.Register.rows c.args.register.now) c.args.place c.loop-climbed.links.items c.loop-climbed.invariant.2 (omega (arith, c.loop-climbed.invariant.0)) (omega arith)

pub returns-in_default : goal.returns-in_default
returns-in_default g c =
    gathered_top (g.R.Register.rows c.args.register.now) c.args.place c.loop-climbed.at c.origin_at.result c.loop-climbed.links.items c.origin_at.ensures c.loop-climbed.invariant.1 c.loop-climbed.invariant.2 c.in_default.is
