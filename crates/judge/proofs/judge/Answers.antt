use Rattle.bookformat.specs.Books.{book_value}
use Rattle.judge.specs.Judging.{good_book}
use Rattle.judge.proofs.Faults.{book_refused}
use Rattle.judge.proofs.judge.Goals as goal

pub returns-in_err-book : goal.returns-in_err-book
returns-in_err-book c =
    book_refused c.args.bytes.now c.args.links.now c.args.dates.now c.in_err-book.field-0.0 c.from_residual.result c.from_residual.ensures.1 c.in_err-book.ensures

pub returns : goal.returns
returns c = good_book (book_value c.in_ok-book.book) c.in_ok-book.ensures c.judge_in.ensures
