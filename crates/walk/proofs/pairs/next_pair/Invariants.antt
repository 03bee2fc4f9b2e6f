use Rattle.bookformat.specs.Books.{book_value}
use Rattle.walk.proofs.Seeking.{Sought}
use Rattle.walk.proofs.pairs.next_pair.Given as goal

abbrev pub invariant-loop-at : goal.invariant-loop-at
invariant-loop-at g l = Sought (book_value l.book) (g.R.Register.rows l.register) l.place l.link l.at l.start
