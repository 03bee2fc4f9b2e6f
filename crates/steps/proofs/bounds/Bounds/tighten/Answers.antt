use Rattle.std.proofs.Common.{sym, ◌∙◌}
use Rattle.steps.proofs.Filled.{made, kept, still_usable, tightened}
use Rattle.steps.proofs.bounds.Bounds.tighten.Goals as goal

pub invariant_of-self : goal.invariant_of-self
invariant_of-self c = record {
  usable = ∣ still_usable c.args.self.now c.args.from c.args.to c.args.count c.unwrap-ticks.result c.requires.inside (made c.ranges.count c.unwrap-ticks.ensures c.try_from.ensures) c.at.ensures (sym c.is_better.ensures ∙ c.if-is_better.true) c.requires.small c.set.ensures.places c.set.ensures.weights ∣₁;
}

pub returns-then-is_better : goal.returns-then-is_better
returns-then-is_better c = tightened c.args.self.now c.args.from c.args.to c.args.count c.unwrap-ticks.result c.requires.inside (made c.ranges.count c.unwrap-ticks.ensures c.try_from.ensures) c.at.ensures (sym c.is_better.ensures ∙ c.if-is_better.true) c.set.ensures.places c.set.ensures.weights

pub returns-else-is_better : goal.returns-else-is_better
returns-else-is_better c = kept c.args.self.now c.args.from c.args.to c.args.count c.unwrap-ticks.result c.requires.inside (made c.ranges.count c.unwrap-ticks.ensures c.try_from.ensures) c.at.ensures (sym c.is_better.ensures ∙ c.if-is_better.false)
