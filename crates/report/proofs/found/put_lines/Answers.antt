use Rattle.std.proofs.Common.{◌≡◌, suc, ◌+◌, length, None, refl, subst, ap, arith}
use Rattle.bookformat.specs.Books.{book_value}
use Rattle.report.specs.Reports.{lines_text}
use Rattle.report.proofs.Along.{stop_inside, lines_more, line_fits, led_by, lines_at}
use Rattle.report.proofs.found.put_lines.Goals as goal

pub put_line-requires : goal.put_line-requires
put_line-requires g c =
    let b = book_value c.args.found.now.path.book.now in
    let links = c.args.found.now.path.links.now in
    let dates = c.args.found.now.dates.now in
    let stop = c.first_stop-stop.result in
    let at = c.first_stop-stop.ensures in
    record {
      inside = stop_inside b links dates 0 stop at (omega arith) c.args.found.now.long;
      room = omega (arith, line_fits b links dates 0 stop at None refl (omega arith), c.requires);
    }

pub loop-position-init : goal.loop-position-init
loop-position-init g c =
    let b = book_value c.args.found.now.path.book.now in
    let line = lines_more b c.args.found.now.path.links.now c.args.found.now.dates.now 0 c.first_stop-stop.result c.first_stop-stop.ensures None refl in
    (c.first_stop-stop.ensures, subst (λ text. g.S.Sink.Took c.args.sink.now text c.put_line.new.sink) line c.put_line.ensures)

pub put_line-requires-in-loop-position : goal.put_line-requires-in-loop-position
put_line-requires-in-loop-position g c =
    let b = book_value c.args.found.now.path.book.now in
    let links = c.args.found.now.path.links.now in
    let dates = c.args.found.now.dates.now in
    let i = c.loop-position.position in
    let stop = c.stop_after-stop.result in
    let at = c.stop_after-stop.ensures in
    let fits = line_fits b links dates (i + 1) stop at _ (led_by b links dates i _ refl) (omega arith) in
    let same = ap length (lines_at b links dates i) in
    let left = g.met.S.Sink.room_left _ _ _ c.loop-position.invariant.1 (omega (arith, fits, same, c.requires)) in
    record {
      inside = stop_inside b links dates (i + 1) stop at (omega arith) c.args.found.now.long;
      room = omega (arith, fits, same, left, c.requires);
    }

pub loop-position-preserved : goal.loop-position-preserved
loop-position-preserved g c =
    let b = book_value c.args.found.now.path.book.now in
    let links = c.args.found.now.path.links.now in
    let dates = c.args.found.now.dates.now in
    let i = c.loop-position.position in
    let at = c.stop_after-stop.ensures in
    let so_far = subst (λ text. g.S.Sink.Took c.args.sink.now text c.loop-position.sink) (lines_at b links dates i) c.loop-position.invariant.1 in
    let line = lines_more b links dates (i + 1) c.stop_after-stop.result at _ (led_by b links dates i _ refl) in (
      at,
      subst (λ text. g.S.Sink.Took c.args.sink.now text c.put_line-in-loop-position.new.sink) line
          (g.met.S.Sink.took_both _ _ _ _ _ so_far c.put_line-in-loop-position.ensures),
    )

pub returns : goal.returns
returns g c =
    let b = book_value c.args.found.now.path.book.now in
    let links = c.args.found.now.path.links.now in
    let all : c.loop-position.position ≡ length links = omega arith in
    subst (λ n. g.S.Sink.Took c.args.sink.now (lines_text b links c.args.found.now.dates.now (suc n)) c.loop-position.sink) all c.loop-position.invariant.1
