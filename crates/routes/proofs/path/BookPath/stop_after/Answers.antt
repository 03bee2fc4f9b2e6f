use Rattle.std.proofs.Common.{arith}
use Rattle.bookformat.specs.Books.{book_value}
use Rattle.bookformat.proofs.Known.{is_good}
use Rattle.routes.proofs.Placing.{end_fits}
use Rattle.routes.proofs.path.BookPath.stop_after.Goals as goal

pub end-requires : goal.end-requires
end-requires c =
    let path = c.args.self.now in
    end_fits (book_value path.book.now) path.links.now c.args.position c.args.stop.now c.requires.at (is_good path.book.now) (omega (arith, c.requires.inside, path.few))
