use Rattle.paths.proofs.Facts.{drift_near, drift_far}
use Rattle.paths.proofs.Asked.{chart_bounds, link_bounds, path_bounds}
use Rattle.paths.proofs.bounds_are_rules.Goals as goal

pub returns : goal.returns
returns c = record { drift = record { near = drift_near; far = drift_far }; bounds = record { chart = chart_bounds; link = link_bounds; dating = path_bounds } }
