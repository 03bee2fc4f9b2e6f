use Rattle.search.proofs.Unique.{determined_law, budget_law}
use Rattle.search.proofs.walk_is_determined.Goals as goal

pub returns : goal.returns
returns g c = record {
  walk = λ x. determined_law (g.X.Walkable.system x);
  budget = λ x. budget_law (g.X.Walkable.system x);
}
