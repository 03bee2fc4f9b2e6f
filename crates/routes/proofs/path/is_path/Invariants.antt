use Rattle.std.proofs.Common.{◌≡◌}
use Rattle.bookformat.specs.Values.{BookValue}
use Rattle.routes.specs.Stops.{StandsAt}
use Rattle.routes.proofs.path.is_path.Given as goal

abbrev pub invariant-loop-link : goal.invariant-loop-link
invariant-loop-link l = (b : BookValue) → b.first ≡ l.first → b.links ≡ l.all → StandsAt b l.links l.link-index l.at
