use Rattle.std.proofs.Common.{ℕ, List, subst₂}
use Rattle.bookformat.specs.declared.book.Book.{Book}
use Rattle.bookformat.specs.Books.{book_value}
use Rattle.report.specs.Texts.{Writes}
use Rattle.report.specs.Reports.{report_text}
use Rattle.report.specs.Means.{dated}
use Rattle.report.proofs.Whole.{writes_kept}
use Rattle.report.proofs.found.report_links.Goals as goal

pub returns : goal.returns
returns c =
    let dates = c.in_ok-date_links.ensures in
    let work = c.date_links.new.space in
    let written =
    subst₂ (λ (b : Book) (links : List ℕ). Writes (report_text (book_value b) links work) c.args.text.now c.write_path.new.text c.write_path.result)
    c.new.ensures.book c.new.ensures.links c.write_path.ensures in
    record {
      report = λ path datable. dated dates.dated.1 (dates.dates path datable).earliest written;
      rest = writes_kept (report_text (book_value c.args.book.now) c.args.links.now work) c.args.text.now c.write_path.new.text c.write_path.result written;
    }
