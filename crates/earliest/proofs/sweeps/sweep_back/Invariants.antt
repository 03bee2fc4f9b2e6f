use Rattle.bookformat.specs.Books.{book_value}
use Rattle.earliest.specs.Raising.{Rises}
use Rattle.routes.specs.Stops.{At}
use Rattle.earliest.specs.Positions.{PathKept}
use Rattle.earliest.proofs.sweeps.sweep_back.Given as goal

abbrev pub invariant-loop-position : goal.invariant-loop-position
invariant-loop-position l =
    At (book_value l.path.book.now) l.path.links.now l.position l.here
    × Rises (PathKept (book_value l.path.book.now) l.path.links.now) (λ _. Unit {0}) l.initial.dates l.dates l.changed
