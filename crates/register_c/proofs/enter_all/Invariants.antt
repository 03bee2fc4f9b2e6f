use Rattle.std.proofs.Common.{◌≡◌, ◌+◌, ◌≤◌, length}
use Rattle.register_c.proofs.enter_all.Given as goal

abbrev pub invariant-loop-number : goal.invariant-loop-number
invariant-loop-number g l = (length (g.R.Register.rows l.register) ≡ length (g.R.Register.rows l.initial.register) + l.new) × (l.new ≤ l.number)
