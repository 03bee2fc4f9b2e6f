use Rattle.std.proofs.Common.{◌-◌, ◌*◌, ◌^◌, length, sum, arith}
use Rattle.std.proofs.lemmas.Bool.{or_right}
use Rattle.bookformat.specs.Books.{book_value}
use Rattle.bookformat.proofs.Known.{is_good}
use Rattle.earliest.proofs.Charted.{first_inside}
use Rattle.routes.proofs.Placing.{before_most}
use Rattle.earliest.proofs.Swept.{placed_at, turn, one_turn, moved_so, sum_rises, fitting_sum, falls_forward, falls_back}
use Rattle.earliest.proofs.sweeps.walk.Goals as goal

pub offset_bounds-dates-here : goal.offset_bounds-dates-here
offset_bounds-dates-here c =
    omega (arith, c.loop-position.invariant.0.first, c.loop-position.invariant.1, before_most (book_value c.args.path.now.book.now) (is_good c.args.path.now.book.now) c.args.path.now.links.now c.loop-position.position, c.args.path.now.few)

pub bounds-dates-here : goal.bounds-dates-here
bounds-dates-here c =
    let b = book_value c.args.path.now.book.now in
    let n = length c.args.dates.now in
    omega (arith, first_inside b (is_good c.args.path.now.book.now) c.loop-position.here n (placed_at b c.args.path.now.links.now c.loop-position.position c.loop-position.here c.loop-position.invariant.0 n c.loop-position.invariant.1 (omega (arith, c.requires.long))), c.turn_back-moved.ensures.long, c.enter-changed.ensures.long, c.loop-position.auto.dates)

pub loop-position-smaller-then-not-moved : goal.loop-position-smaller-then-not-moved
loop-position-smaller-then-not-moved c =
    falls_forward (length c.args.dates.now * (2 ^ 32 - 1)) (sum c.loop-position.dates) (sum c.turn_back-moved.new.dates) (length c.args.path.now.links.now) c.loop-position.position
    (sum_rises (turn (book_value c.args.path.now.book.now) c.args.path.now.links.now c.loop-position.position (omega arith) c.enter-changed.ensures c.turn_back-moved.ensures)) (omega arith)

pub loop-position-preserved-then-not-moved : goal.loop-position-preserved-then-not-moved
loop-position-preserved-then-not-moved c = (
  c.stop_after-next.ensures,
  omega arith,
  omega (arith, c.max-reached.ensures),
  one_turn (book_value c.args.path.now.book.now) c.args.path.now.links.now c.loop-position.position (omega arith) c.enter-changed.ensures c.turn_back-moved.ensures c.loop-position.invariant.3,
)

pub returns-then-dates-here : goal.returns-then-dates-here
returns-then-dates-here c = moved_so _ _ c.if-not-moved.false (one_turn (book_value c.args.path.now.book.now) c.args.path.now.links.now c.loop-position.position (omega arith) c.enter-changed.ensures c.turn_back-moved.ensures c.loop-position.invariant.3)

pub loop-position-smaller-then-reached-position : goal.loop-position-smaller-then-reached-position
loop-position-smaller-then-reached-position c =
    let r = one_turn (book_value c.args.path.now.book.now) c.args.path.now.links.now c.loop-position.position (omega arith) c.enter-changed.ensures c.turn_back-moved.ensures c.loop-position.invariant.3 in
    falls_back (length c.args.dates.now * (2 ^ 32 - 1)) (sum c.loop-position.dates) (sum c.turn_back-moved.new.dates) (length c.args.path.now.links.now) c.loop-position.position (c.loop-position.position - 1)
    ((turn (book_value c.args.path.now.book.now) c.args.path.now.links.now c.loop-position.position (omega arith) c.enter-changed.ensures c.turn_back-moved.ensures).more (or_right c.enter-changed.result c.turn_back-moved.result c.if-not-moved.false))
    (fitting_sum c.args.dates.now c.turn_back-moved.new.dates r c.requires.fits)

pub loop-position-preserved-then-reached-position : goal.loop-position-preserved-then-reached-position
loop-position-preserved-then-reached-position c = (
  c.stop_before-here.ensures,
  omega (arith, c.loop-position.invariant.1),
  omega (arith, c.loop-position.invariant.2),
  moved_so _ _ c.if-not-moved.false (one_turn (book_value c.args.path.now.book.now) c.args.path.now.links.now c.loop-position.position (omega arith) c.enter-changed.ensures c.turn_back-moved.ensures c.loop-position.invariant.3),
)

pub loop-position-smaller : goal.loop-position-smaller
loop-position-smaller c =
    let r = one_turn (book_value c.args.path.now.book.now) c.args.path.now.links.now c.loop-position.position (omega arith) c.enter-changed.ensures c.turn_back-moved.ensures c.loop-position.invariant.3 in
    falls_back (length c.args.dates.now * (2 ^ 32 - 1)) (sum c.loop-position.dates) (sum c.turn_back-moved.new.dates) (length c.args.path.now.links.now) c.loop-position.position c.loop-position.position
    ((turn (book_value c.args.path.now.book.now) c.args.path.now.links.now c.loop-position.position (omega arith) c.enter-changed.ensures c.turn_back-moved.ensures).more (or_right c.enter-changed.result c.turn_back-moved.result c.if-not-moved.false))
    (fitting_sum c.args.dates.now c.turn_back-moved.new.dates r c.requires.fits)

pub loop-position-preserved : goal.loop-position-preserved
loop-position-preserved c = (c.loop-position.invariant.0, c.loop-position.invariant.1, c.loop-position.invariant.2, moved_so _ _ c.if-not-moved.false (one_turn (book_value c.args.path.now.book.now) c.args.path.now.links.now c.loop-position.position (omega arith) c.enter-changed.ensures c.turn_back-moved.ensures c.loop-position.invariant.3))
