use Rattle.bookrecords.proofs.Listing.{SoFar}
use Rattle.bookrecords.proofs.lists.read_bounded.Given as goal

abbrev pub invariant-loop-k : goal.invariant-loop-k
invariant-loop-k g l = SoFar (g.T.Listed.tests l.book l.setting) (g.T.Listed.at l.book) g.T.Listed.SIZE l.place l.k l.list.items
