use Rattle.bookformat.specs.Values.{chart_value}
use Rattle.bookformat.specs.Books.{book_value}
use Rattle.bookformat.proofs.Known.{is_good}
use Rattle.rules.proofs.Numbered.{covered, decides_rules}
use Rattle.rules.proofs.keeps_chart.Goals as goal

pub passes_all-requires : goal.passes_all-requires
passes_all-requires c =
    covered (book_value c.args.book.now) (is_good c.args.book.now) c.args.number c.requires.exists c.args.dated.now.full.now c.args.dated.now.dates.now c.requires.full c.args.dated.now.each
    (chart_value c.chart-chart.result.now) c.chart-chart.ensures c.deref.result.now c.deref-2.result.now c.deref.ensures.0 c.deref-2.ensures.0

pub returns : goal.returns
returns c =
    decides_rules (book_value c.args.book.now) (is_good c.args.book.now) c.args.number c.requires.exists c.args.dated.now.full.now c.args.dated.now.dates.now c.requires.full c.args.dated.now.each
    (chart_value c.chart-chart.result.now) c.chart-chart.ensures c.deref.result.now c.deref-2.result.now c.deref.ensures.0 c.deref-2.ensures.0
    c.passes_all.result c.passes_all.ensures
