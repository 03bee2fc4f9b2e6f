use Rattle.earliest.proofs.Risen.{interval_met}
use Rattle.earliest.proofs.raising.raise_interval.Goals as goal

pub returns : goal.returns
returns c =
    interval_met c.args.interval c.args.first c.args.second c.least_after-after.result c.least_before-before.result c.requires.inside.0 c.requires.inside.1 c.requires.small
    c.least_after-after.ensures c.raise-changed.ensures c.least_before-before.ensures c.raise-changed-2.ensures
