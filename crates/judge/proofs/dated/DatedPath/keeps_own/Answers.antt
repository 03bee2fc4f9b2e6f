use Rattle.std.proofs.Common.{sym, subst}
use Rattle.bookformat.specs.Books.{book_value}
use Rattle.bookformat.specs.Rules.{chart}
use Rattle.bookformat.proofs.Known.{is_good}
use Rattle.fullchart.specs.Finds.{IsFull}
use Rattle.judge.proofs.Positions.{part_fits, own_decided}
use Rattle.judge.proofs.dated.DatedPath.keeps_own.Goals as goal

pub dated_chart-requires : goal.dated_chart-requires
dated_chart-requires c = let path = c.args.self.now.path in part_fits (book_value path.book.now) (is_good path.book.now) path.links.now c.args.self.now.dates.now c.args.self.now.count c.args.position c.args.stop.now c.requires.inside c.requires.at

pub keeps_chart-requires : goal.keeps_chart-requires
keeps_chart-requires c =
    let b = book_value c.args.self.now.path.book.now in
    record { exists = c.requires.at.exists; full = subst (IsFull b (chart b c.args.stop.now.number)) (sym c.dated_chart.ensures.full) c.requires.at.full }

pub returns : goal.returns
returns c =
    let path = c.args.self.now.path in
    own_decided (book_value path.book.now) (is_good path.book.now) path.links.now c.args.self.now.dates.now c.args.self.now.count c.args.position c.args.stop.now c.requires.inside c.requires.at
    c.dated_chart.result.dates.now c.dated_chart.ensures.dates c.keeps_chart.result c.keeps_chart.ensures
