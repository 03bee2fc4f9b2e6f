use Rattle.bookrecords.proofs.Intervals.{constraint_read}
use Rattle.bookrecords.proofs.singles.read_constraint.Goals as goal

pub returns : goal.returns
returns g c =
    let h = c.in_ok-part.ensures in
    constraint_read c.args.book.now c.in_ok-part.part.now c.args.events.now c.args.place c.from-interval.result c.constraint.result h.0 h.2 c.from-interval.ensures c.constraint.ensures
