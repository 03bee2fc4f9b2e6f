use Rattle.bookrecords.proofs.Listing.{list_refused, list_more}
use Rattle.bookrecords.proofs.lists.read_list.Goals as goal

pub returns-in_err-item : goal.returns-in_err-item
returns-in_err-item g c =
    list_refused (g.T.Listed.tests c.args.book.now c.args.setting.now) (g.T.Listed.at c.args.book.now) g.T.Listed.SIZE c.args.place c.loop-number.number c.loop-number.list.items c.loop-number.invariant c.SIZE.result c.SIZE.ensures
    c.from_residual.result _ c.in_err-item.field-0.0 c.args.count c.from_residual.ensures.1 c.loop-number-test.true c.in_err-item.ensures

pub loop-number-preserved : goal.loop-number-preserved
loop-number-preserved g c =
    list_more (g.T.Listed.tests c.args.book.now c.args.setting.now) (g.T.Listed.at c.args.book.now) g.T.Listed.SIZE c.args.place c.loop-number.number c.loop-number.list.items c.loop-number.invariant c.SIZE.result c.SIZE.ensures
    c.push.new.self.items c.in_ok-item.item c.in_ok-item.ensures.0 c.in_ok-item.ensures.1 c.push.ensures.items c.push.ensures.len
