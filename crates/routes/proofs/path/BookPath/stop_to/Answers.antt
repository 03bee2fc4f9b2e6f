use Rattle.std.proofs.Common.{arith}
use Rattle.bookformat.specs.Books.{book_value}
use Rattle.bookformat.proofs.Known.{is_good}
use Rattle.routes.proofs.Placing.{number_exists, first_before}
use Rattle.routes.proofs.path.BookPath.stop_to.Goals as goal

pub returns : goal.returns
returns c =
    let path = c.args.self.now in
    let b = book_value path.book.now in
    let number = c.chart_number-number.ensures in
    let full = c.numbered-full.ensures in
    let exists = number_exists b (is_good path.book.now) path.links.now path.path c.args.position c.requires.inside in
    let first = first_before b path.links.now c.args.position c.chart_number-number.result c.args.end c.numbered-full.result number full c.requires.end in
    record { number = number; exists = omega (arith, number, exists); full = full; first = omega (arith, first, c.count.ensures) }
