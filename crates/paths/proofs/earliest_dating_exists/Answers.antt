use Rattle.std.proofs.Common.{arith}
use Rattle.paths.proofs.Levels.{minimum}
use Rattle.paths.proofs.Existing.{earliest_exists}
use Rattle.paths.proofs.Early.{earliest_most, earliest_fits}
use Rattle.paths.proofs.earliest_dating_exists.Goals as goal

pub returns : goal.returns
returns c = record {
  minimum = minimum;
  exists = earliest_exists;
  unique = λ b path d d' h g k e at. omega (arith, h.earliest d' g.dating k e at, g.earliest d h.dating k e at);
  most = earliest_most;
  fits = earliest_fits;
}
