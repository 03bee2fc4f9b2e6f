use Rattle.std.proofs.Common.{◌+◌, ◌-◌, ◌*◌, ◌^◌, ◌≤◌, length, sum}
use Rattle.bookformat.specs.Books.{book_value}
use Rattle.earliest.specs.Raising.{Rises}
use Rattle.earliest.specs.Demands.{Each}
use Rattle.routes.specs.Stops.{At}
use Rattle.earliest.specs.Positions.{Entering, PathKept}
use Rattle.earliest.proofs.sweeps.walk.Given as goal

abbrev pub invariant-loop-position : goal.invariant-loop-position
invariant-loop-position l =
    At (book_value l.path.book.now) l.path.links.now l.position l.here
    × (l.position ≤ length l.path.links.now)
    × (l.position ≤ l.reached)
    × Rises (PathKept (book_value l.path.book.now) l.path.links.now) (Each l.position (Entering (book_value l.path.book.now) l.path.links.now)) l.initial.dates l.dates l.changed

-- each turn raises the sum of the dates or goes forward
abbrev pub decreases-loop-position : goal.decreases-loop-position
decreases-loop-position l = (length l.initial.dates * (2 ^ 32 - 1) - sum l.dates) * (length l.path.links.now + 1) + (length l.path.links.now - l.position)
