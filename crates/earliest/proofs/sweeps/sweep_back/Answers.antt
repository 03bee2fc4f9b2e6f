use Rattle.std.proofs.Common.{◌≡◌, ◌+◌, ◌-◌, ◌<◌, length, subst, arith}
use Rattle.bookformat.specs.Books.{book_value}
use Rattle.routes.specs.Stops.{At}
use Rattle.earliest.proofs.Swept.{back_turn}
use Rattle.earliest.proofs.sweeps.sweep_back.Goals as goal

pub loop-position-preserved : goal.loop-position-preserved
loop-position-preserved c =
    let b = book_value c.args.path.now.book.now in
    let p = c.loop-position.position in
    let e : p - 1 + 1 - 1 ≡ p - 1 = omega arith in
    let inside : p - 1 < length c.args.path.now.links.now = omega arith in
    (subst (λ j. At b c.args.path.now.links.now j c.stop_before-left.result) e c.stop_before-left.ensures, back_turn b c.args.path.now.links.now (p - 1) inside c.loop-position.invariant.1 c.turn_back-changed.ensures)
