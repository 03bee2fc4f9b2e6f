use Rattle.std.proofs.Common.{◌≡◌, ◌≤◌, length}
use Rattle.examination_c.proofs.date_often.Given as goal

abbrev pub invariant-loop : goal.invariant-loop
invariant-loop g l = (l.count ≤ length l.initial.space) × (length l.space ≡ length l.initial.space)
