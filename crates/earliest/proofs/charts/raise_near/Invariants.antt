use Rattle.bookformat.specs.Books.{book_value}
use Rattle.earliest.specs.Raising.{Raises}
use Rattle.earliest.specs.Demands.{Each, DriftKept}
use Rattle.earliest.proofs.charts.raise_near.Given as goal

abbrev pub invariant-loop-f : goal.invariant-loop-f
invariant-loop-f l = Raises (Each l.f (DriftKept (book_value l.book) l.full.working l.first l.e)) l.initial.dates l.dates l.changed
