use Rattle.paths.proofs.Asked.{path_walk, path_cycle}
use Rattle.paths.proofs.cycles_forbid_datings.Goals as goal

pub returns : goal.returns
returns c = record { walk = path_walk; cycle = path_cycle }
