use Rattle.std.proofs.Common.{length, arith, rules}
use Rattle.bookformat.specs.Books.{book_value}
use Rattle.bookformat.proofs.Known.{is_good}
use Rattle.earliest.proofs.Flat.{not_past}
use Rattle.earliest.proofs.Swept.{least_kept, falls}
use Rattle.earliest.proofs.sweeps.rise.Goals as goal

pub loop-dates-smaller : goal.loop-dates-smaller
loop-dates-smaller c =
    falls (length c.args.dates.now) (search rules) c.sweep_forward.ensures.raises c.sweep_back.ensures c.loop-dates.invariant.1 c.loop-dates.auto.dates

pub loop-dates-preserved : goal.loop-dates-preserved
loop-dates-preserved c = (
  least_kept c.sweep_forward.ensures.raises c.sweep_back.ensures c.loop-dates.invariant.0,
  c.sweep_back.ensures.fits (c.sweep_forward.ensures.raises.fits c.loop-dates.invariant.1),
  omega (arith, c.min-window.ensures, c.args.path.now.few),
)

pub returns-then-is_past : goal.returns-then-is_past
returns-then-is_past c datable =
    let b = book_value c.args.path.now.book.now in
    let r = c.sweep_forward.ensures.raises in
    let (k, inside, past) = c.is_past.ensures.0 (search rules) in
    let dated = not_past b (is_good c.args.path.now.book.now) c.args.path.now.links.now datable c.sweep_forward.new.dates (omega (arith, c.requires.long, c.loop-dates.auto.dates, r.long)) (λ z d. r.under z d (c.loop-dates.invariant.0 z d)) k inside in
    absurd (omega (arith, c.latest-latest.ensures))
