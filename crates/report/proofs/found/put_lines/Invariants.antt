use Rattle.std.proofs.Common.{suc}
use Rattle.bookformat.specs.Books.{book_value}
use Rattle.routes.specs.Stops.{At}
use Rattle.report.specs.Reports.{lines_text}
use Rattle.report.proofs.found.put_lines.Given as goal

abbrev pub invariant-loop-position : goal.invariant-loop-position
invariant-loop-position g l =
    At (book_value l.found.path.book.now) l.found.path.links.now l.position l.stop
    × g.S.Sink.Took l.fn.sink (lines_text (book_value l.found.path.book.now) l.found.path.links.now l.found.dates.now (suc l.position)) l.sink
