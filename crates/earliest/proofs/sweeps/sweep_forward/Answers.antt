use Rattle.std.proofs.Common.{length, arith}
use Rattle.bookformat.specs.Books.{book_value}
use Rattle.bookformat.proofs.Known.{is_good}
use Rattle.earliest.proofs.Flat.{dates_small}
use Rattle.earliest.proofs.Swept.{placed_at, path_met, settled}
use Rattle.earliest.proofs.sweeps.sweep_forward.Goals as goal

pub settle-changed-requires : goal.settle-changed-requires
settle-changed-requires c = placed_at (book_value c.args.path.now.book.now) c.args.path.now.links.now 0 c.first_stop-first.result c.first_stop-first.ensures (length c.args.dates.now) (omega arith) (omega (arith, c.requires.long))

pub walk-changed-requires : goal.walk-changed-requires
walk-changed-requires c = record {
  long = omega (arith, c.requires.long, c.settle-changed.ensures.long);
  at = c.first_stop-first.ensures;
  fits = c.settle-changed.ensures.fits c.requires.fits;
}

pub returns : goal.returns
returns c =
    let b = book_value c.args.path.now.book.now in
    let links = c.args.path.now.links.now in
    let r = path_met b links c.first_stop-first.result c.first_stop-first.ensures c.settle-changed.ensures c.walk-changed.ensures in
    record {
      raises = r;
      settled = λ quiet datable least. settled quiet r (dates_small b (is_good c.args.path.now.book.now) links datable c.args.path.now.few c.args.dates.now c.requires.long least) least;
    }
