use Rattle.std.proofs.Common.{length}
use Rattle.bookformat.specs.Books.{book_value}
use Rattle.bookformat.proofs.Known.{is_good}
use Rattle.routes.proofs.Placing.{end_fits}
use Rattle.routes.proofs.path.BookPath.event_count.Goals as goal

pub end-requires : goal.end-requires
end-requires c =
    let path = c.args.self.now in
    end_fits (book_value path.book.now) path.links.now (length path.links.now) c.last_stop.result c.last_stop.ensures (is_good path.book.now) path.few
