use Rattle.rules.specs.Checks.{HoldBelow}
use Rattle.rules.proofs.first_broken.Given as goal

abbrev pub invariant-loop-k : goal.invariant-loop-k
invariant-loop-k l = HoldBelow l.constraints l.dates l.k
