use Rattle.search.proofs.Progress.{progress_law}
use Rattle.search.proofs.walk_goes_on.Goals as goal

pub returns : goal.returns
returns g c x = progress_law (g.X.Walkable.system x)
