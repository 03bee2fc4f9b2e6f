use Rattle.bookformat.specs.Books.{book_value}
use Rattle.judge.proofs.Faults.{path_refused}
use Rattle.judge.proofs.judge_in.Goals as goal

pub returns-in_err-numbers : goal.returns-in_err-numbers
returns-in_err-numbers c =
    path_refused (book_value c.args.book.now) c.args.links.now c.args.dates.now c.in_err-numbers.field-0.0 c.from_residual.result
    c.from_residual.ensures.1 c.in_err-numbers.ensures.checked
