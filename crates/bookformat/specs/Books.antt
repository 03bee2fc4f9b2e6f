-- What a book that is stored says.
use Rattle.bookformat.specs.declared.book.Book.{Book}
use Rattle.bookformat.specs.Values.{BookValue, value_of}

abbrev pub book_value : Book → BookValue
book_value b = value_of b.stations b.first b.near b.far b.charts.items b.links.items
