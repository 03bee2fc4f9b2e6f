use Rattle.search.proofs.Told.{phase_law, empty_law, runs_law, spent_law}
use Rattle.search.proofs.states_tell_of_paths.Goals as goal

pub returns : goal.returns
returns g c = record {
  waiting = λ x. phase_law (g.X.Walkable.system x);
  empty = λ x. empty_law (g.X.Walkable.system x);
  runs = λ x. runs_law (g.X.Walkable.system x);
  spent = λ x. spent_law (g.X.Walkable.system x);
}
