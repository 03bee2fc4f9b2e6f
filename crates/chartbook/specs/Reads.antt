-- What reading a book answers.
use Rattle.std.specs.Prelude.{◌≡◌, ℕ, List, Some, Ok, Err, Result, ◌≢◌}
use Rattle.bookformat.specs.declared.fault.Fault.{Fault}
use Rattle.bookformat.specs.declared.book.Book.{Book}
use Rattle.bookformat.specs.Values.{BookValue}
use Rattle.bookformat.specs.Books.{book_value}
use Rattle.bookformat.specs.Encoding.{encode}
use Rattle.bookformat.specs.Rules.{GoodBook}
use Rattle.bookformat.specs.Reading.{fault}

-- the bytes are those of the book, which is good, and of no other good book
pub record Taken (bytes : List ℕ) (book : BookValue) : Type 0 where
  pub bytes_are : encode book ≡ bytes
  pub good : GoodBook book
  pub only : (other : BookValue) → GoodBook other → encode other ≡ bytes → other ≡ book

-- the bytes are those of no good book, and the fault is that of the first failing test in reading order
pub record Refused (bytes : List ℕ) (f : Fault) : Type 0 where
  pub first : fault bytes ≡ Some f
  pub not_good : (book : BookValue) → GoodBook book → encode book ≢ bytes

abbrev pub Reads : List ℕ → Result Book Fault → Type 0
Reads bytes (Ok book) = Taken bytes (book_value book)
Reads bytes (Err f) = Refused bytes f
