use Rattle.std.proofs.Common.{◌≡◌}
use Rattle.bookformat.specs.Books.{book_value}
use Rattle.walk.proofs.Onward.{Under}
use Rattle.walk.proofs.going.go_on.Given as goal

abbrev pub invariant-loop-steps : goal.invariant-loop-steps
invariant-loop-steps g l =
    (g.R.Register.capacity l.register ≡ g.R.Register.capacity l.initial.register)
    × Under (book_value l.book) (g.R.Register.capacity l.initial.register) (g.R.Register.rows l.initial.register) l.initial.at l.steps (g.R.Register.rows l.register) l.at
