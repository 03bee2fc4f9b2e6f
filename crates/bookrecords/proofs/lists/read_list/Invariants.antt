use Rattle.bookrecords.proofs.Listing.{SoFar}
use Rattle.bookrecords.proofs.lists.read_list.Given as goal

abbrev pub invariant-loop-number : goal.invariant-loop-number
invariant-loop-number g l = SoFar (g.T.Listed.tests l.book l.setting) (g.T.Listed.at l.book) g.T.Listed.SIZE l.place l.number l.list.items
