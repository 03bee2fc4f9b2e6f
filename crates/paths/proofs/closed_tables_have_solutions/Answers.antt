use Rattle.paths.proofs.Asked.{cycle_forbids}
use Rattle.paths.proofs.Closed as closed
use Rattle.paths.proofs.closed_tables_have_solutions.Goals as goal

pub returns : goal.returns
returns c = record {
  forbidden = λ n A bad. cycle_forbids bad;
  solvable = closed.solvable;
  same = λ n A D closes x. (closed.closed_kept n A D closes x, closed.kept_closed n A D closes x);
  attained = closed.attained;
  unlimited = closed.unlimited;
  extended = closed.extended;
}
