use Rattle.bookformat.specs.Books.{book_value}
use Rattle.routes.specs.Stops.{At}
use Rattle.routes.proofs.path.BookPath.last_stop.Given as goal

abbrev pub invariant-loop-position : goal.invariant-loop-position
invariant-loop-position l = At (book_value l.self.book.now) l.self.links.now l.position l.here
