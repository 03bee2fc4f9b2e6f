use Rattle.std.proofs.Common.{sym, ◌∙◌}
use Rattle.steps.proofs.Entered.{before_entered}
use Rattle.steps.proofs.bounds.Bounds.add_before.Goals as goal

pub returns-then-is_directly_before : goal.returns-then-is_directly_before
returns-then-is_directly_before c = before_entered c.args.first (sym c.is_directly_before.ensures ∙ c.if-is_directly_before.true) c.tighten.ensures
