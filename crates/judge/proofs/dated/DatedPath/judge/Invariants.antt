use Rattle.std.proofs.Common.{ℕ, ◌+◌, ◌<◌}
use Rattle.bookformat.specs.Books.{book_value}
use Rattle.paths.specs.Listing.{written}
use Rattle.routes.specs.Stops.{At}
use Rattle.judge.specs.Judging.{KeepsPosition}
use Rattle.judge.proofs.dated.DatedPath.judge.Given as goal

abbrev pub invariant-loop-position : goal.invariant-loop-position
invariant-loop-position l =
    At (book_value l.self.path.book.now) l.self.path.links.now l.position l.here
    × ((j : ℕ) → j < l.position + 1 → KeepsPosition (book_value l.self.path.book.now) l.self.path.links.now (written (book_value l.self.path.book.now) l.self.path.links.now l.self.dates.now) j)
