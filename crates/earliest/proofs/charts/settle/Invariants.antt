use Rattle.std.proofs.Common.{Bool}
use Rattle.bookformat.specs.Books.{book_value}
use Rattle.bookformat.specs.Rules.{chart}
use Rattle.earliest.specs.Raising.{Rises}
use Rattle.earliest.specs.Demands.{ChartKept}
use Rattle.earliest.proofs.charts.settle.Given as goal

abbrev pub invariant-loop : goal.invariant-loop
invariant-loop l =
    (c : Bool) × Rises (ChartKept (book_value l.book) (chart (book_value l.book) l.stop.number) l.stop.first) (λ _. Unit {0}) l.initial.dates l.dates c
