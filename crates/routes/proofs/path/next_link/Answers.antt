use Rattle.std.proofs.Common.{sym}
use Rattle.bookformat.specs.Books.{book_value}
use Rattle.routes.proofs.path.next_link.Goals as goal

pub returns-clause-leaves : goal.returns-clause-leaves
returns-clause-leaves c = c.leaving.ensures.leaves (book_value c.args.book.now) (sym c.deref.ensures.0)

pub returns-clause-link : goal.returns-clause-link
returns-clause-link c = c.leaving.ensures.link (book_value c.args.book.now) (sym c.deref.ensures.0)
