use Rattle.std.proofs.Common.{subst}
use Rattle.bookformat.specs.declared.book.Book.{Book}
use Rattle.bookformat.specs.Books.{book_value}
use Rattle.report.specs.Means.{LinksReported}
use Rattle.report.proofs.Whole.{found_report}
use Rattle.report.proofs.reports.report.Goals as goal

pub returns-in_ok-links-in-Runs : goal.returns-in_ok-links-in-Runs
returns-in_ok-links-in-Runs g c =
    let e = c.args.examination.now in
    record {
      report =
          found_report (g.R.Register.rows c.args.register.now) e.phase c.in_ok-links-in-Runs.links c.in_ok-links-in-Runs.ensures (book_value e.book) c.deref.result.now
          c.args.work.now c.args.text.now c.report_links.result c.report_links.new.work c.report_links.new.text c.deref.ensures.0
          (subst (λ (b : Book). LinksReported (book_value b) c.deref.result.now c.args.work.now c.args.text.now c.report_links.result c.report_links.new.work c.report_links.new.text) c.book.ensures c.report_links.ensures);
      rest = c.report_links.ensures.rest;
    }
