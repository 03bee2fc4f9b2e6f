use Rattle.std.proofs.Common.{◌-◌, ◌*◌, ◌^◌, ◌≤◌, length, sum}
use Rattle.bookformat.specs.Books.{book_value}
use Rattle.earliest.specs.Raising.{Fitting}
use Rattle.earliest.specs.Positions.{Least}
use Rattle.earliest.proofs.sweeps.rise.Given as goal

abbrev pub invariant-loop-dates : goal.invariant-loop-dates
invariant-loop-dates l = Least (book_value l.path.book.now) l.path.links.now l.dates × Fitting l.dates × (l.window ≤ 4095)

abbrev pub decreases-loop-dates : goal.decreases-loop-dates
decreases-loop-dates l = length l.initial.dates * (2 ^ 32 - 1) - sum l.dates
