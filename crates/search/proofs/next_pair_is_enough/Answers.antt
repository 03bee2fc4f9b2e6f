use Rattle.search.proofs.Told.{place_law}
use Rattle.search.proofs.next_pair_is_enough.Goals as goal

pub returns : goal.returns
returns g c x = place_law (g.X.Walkable.system x)
