use Rattle.search.proofs.Told.{rows_law, trail_law}
use Rattle.search.proofs.rows_are_classes.Goals as goal

pub returns : goal.returns
returns g c = record {
  rows = λ x. rows_law (g.X.Walkable.system x);
  trails = λ x. trail_law (g.X.Walkable.system x);
}
