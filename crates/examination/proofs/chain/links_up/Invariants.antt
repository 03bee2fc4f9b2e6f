use Rattle.std.proofs.Common.{◌≡◌, length}
use Rattle.examination.specs.Chains.{ClimbsTo}
use Rattle.examination.proofs.Climbing.{Gathered}
use Rattle.examination.proofs.chain.links_up.Given as goal

abbrev pub invariant-loop-climbed : goal.invariant-loop-climbed
invariant-loop-climbed g l =
    (length l.links.items ≡ l._climbed)
    × ClimbsTo (g.R.Register.rows l.register) l.initial.at (length l.links.items) l.at
    × Gathered (g.R.Register.rows l.register) l.initial.at l.links.items
