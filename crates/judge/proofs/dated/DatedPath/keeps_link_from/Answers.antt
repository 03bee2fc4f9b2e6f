use Rattle.std.proofs.Common.{arith}
use Rattle.bookformat.specs.Books.{book_value}
use Rattle.bookformat.proofs.Known.{is_good}
use Rattle.judge.proofs.Positions.{part_fits, entered_fits, left_full, entered_full, link_decided}
use Rattle.judge.proofs.dated.DatedPath.keeps_link_from.Goals as goal

pub dated_chart-before-requires : goal.dated_chart-before-requires
dated_chart-before-requires c =
    let path = c.args.self.now.path in
    part_fits (book_value path.book.now) (is_good path.book.now) path.links.now c.args.self.now.dates.now c.args.self.now.count c.args.position c.args.left.now (omega (arith, c.requires.inside)) c.requires.left

pub dated_chart-after-requires : goal.dated_chart-after-requires
dated_chart-after-requires c =
    let path = c.args.self.now.path in
    entered_fits (book_value path.book.now) (is_good path.book.now) path.links.now c.args.self.now.dates.now c.args.self.now.count c.args.position c.args.left.now c.args.entered.now c.requires.inside c.requires.left c.requires.entered

pub keeps_link_in-requires : goal.keeps_link_in-requires
keeps_link_in-requires c =
    let path = c.args.self.now.path in
    record {
      left =
          left_full (book_value path.book.now) (is_good path.book.now) path.links.now c.args.self.now.dates.now c.args.self.now.count c.args.position c.args.left.now c.args.entered.now c.requires.inside c.requires.left c.requires.entered
          c.link.result.now c.link.ensures path.path c.dated_chart-before.result.full.now c.dated_chart-before.ensures.full;
      entered =
          entered_full (book_value path.book.now) (is_good path.book.now) path.links.now c.args.self.now.dates.now c.args.self.now.count c.args.position c.args.left.now c.args.entered.now c.requires.inside c.requires.left c.requires.entered
          c.link.result.now c.link.ensures path.path c.dated_chart-after.result.full.now c.dated_chart-after.ensures.full;
    }

pub returns : goal.returns
returns c =
    let path = c.args.self.now.path in
    link_decided (book_value path.book.now) (is_good path.book.now) path.links.now c.args.self.now.dates.now c.args.self.now.count c.args.position c.args.left.now c.args.entered.now c.requires.inside c.requires.left c.requires.entered
    c.link.result.now c.link.ensures path.path c.dated_chart-before.result.dates.now c.dated_chart-after.result.dates.now c.dated_chart-before.ensures.dates c.dated_chart-after.ensures.dates c.keeps_link_in.result c.keeps_link_in.ensures
