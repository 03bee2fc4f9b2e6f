-- What an examination and its register hold.
use Rattle.std.specs.Prelude.{List}
use Rattle.bookformat.specs.declared.book.Book.{Book}
use Rattle.bookformat.specs.Books.{book_value}
use Rattle.register.specs.declared.row.Row.{Row}
use Rattle.history.specs.declared.phase.Phase.{Phase}
use Rattle.history.specs.Views.{View}

abbrev pub view_of : Book → Phase → List Row → View
view_of book phase rows = record { book = book_value book; phase = phase; rows = rows }
