use Rattle.search.proofs.Told.{pairs_law}
use Rattle.search.proofs.pairs_are_tried_once.Goals as goal

pub returns : goal.returns
returns g c x = pairs_law (g.X.Walkable.system x)
