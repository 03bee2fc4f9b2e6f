use Rattle.std.proofs.Common.{length}
use Rattle.bookformat.specs.Books.{book_value}
use Rattle.earliest.specs.Raising.{Raises}
use Rattle.earliest.specs.Demands.{Each, DriftKept}
use Rattle.earliest.proofs.charts.raise_drift.Given as goal

abbrev pub invariant-loop-e : goal.invariant-loop-e
invariant-loop-e l =
    Raises (Each l.e (λ e. Each (length l.full.stations.items) (DriftKept (book_value l.book) l.full.working l.first e))) l.initial.dates l.dates l.changed
