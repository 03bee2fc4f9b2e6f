use Rattle.std.proofs.Common.{sym, ◌∙◌, subst}
use Rattle.bookformat.specs.Rules.{GoodBook}
use Rattle.bookformat.proofs.Taken.{taken_good}
use Rattle.bookrecords.proofs.Exits.{hands_on}
use Rattle.chartbook.proofs.BookTests.{charts_fail, links_fail, to_end, book_is}
use Rattle.chartbook.proofs.reader.read_records.Goals as goal

pub returns-in_err-charts : goal.returns-in_err-charts
returns-in_err-charts g c =
    let h = c.in_ok-header.ensures in
    hands_on c.from_residual-in_err-charts.result _ _ c.in_err-charts.field-0.0 c.from_residual-in_err-charts.ensures.1
    (charts_fail c.args.book.now c.in_ok-header.header h.1.0 h.0 c.in_err-charts.field-0.0 c.in_err-charts.ensures)

pub returns-in_err-links : goal.returns-in_err-links
returns-in_err-links g c =
    let h = c.in_ok-header.ensures in
    let cs = c.in_ok-charts.ensures in
    hands_on c.from_residual-in_err-links.result _ _ c.in_err-links.field-0.0 c.from_residual-in_err-links.ensures.1
    (links_fail c.args.book.now c.in_ok-header.header h.1.0 h.0
    cs.0 c.in_ok-charts.charts c.in_ok-charts.place cs.1
    c.in_err-links.field-0.0 c.in_err-links.ensures)

pub returns-in_err-check_end : goal.returns-in_err-check_end
returns-in_err-check_end g c =
    let h = c.in_ok-header.ensures in
    let cs = c.in_ok-charts.ensures in
    let ls = c.in_ok-links.ensures in
    hands_on c.from_residual-in_err-check_end.result _ _ c.in_err-check_end.field-0.0 c.from_residual-in_err-check_end.ensures.1
    (to_end c.args.book.now c.in_ok-header.header h.1.0 h.0
    cs.0 c.in_ok-charts.charts c.in_ok-charts.place cs.1 ls.0
    ∙ c.in_err-check_end.ensures)

pub invariant_of-result : goal.invariant_of-result
invariant_of-result g c =
    let h = c.in_ok-header.ensures in
    let b = c.args.book.now in
    let header = c.in_ok-header.header in
    let cs = c.in_ok-charts.ensures in
    let ls = c.in_ok-links.ensures in
    let passed = to_end b header h.1.0 h.0 cs.0 c.in_ok-charts.charts c.in_ok-charts.place cs.1 ls.0 ∙ c.in_ok-check_end.ensures.0 in
    let is = book_is b header h.1.0 h.0 cs.0 c.in_ok-charts.charts c.in_ok-charts.place cs.1 c.in_ok-links.links.items ls.1 in
    record { good = ∣ subst GoodBook (sym is) (taken_good b h.1.1 passed).1 ∣₁ }

pub returns : goal.returns
returns g c =
    let h = c.in_ok-header.ensures in
    let cs = c.in_ok-charts.ensures in
    let ls = c.in_ok-links.ensures in (
      to_end c.args.book.now c.in_ok-header.header h.1.0 h.0
          cs.0 c.in_ok-charts.charts c.in_ok-charts.place cs.1 ls.0
          ∙ c.in_ok-check_end.ensures.0,
      (
        book_is c.args.book.now c.in_ok-header.header h.1.0 h.0
            cs.0 c.in_ok-charts.charts c.in_ok-charts.place cs.1 c.in_ok-links.links.items ls.1,
        h.1.1,
      ),
    )
