use Rattle.bookrecords.proofs.Listing.{list_refused, list_more}
use Rattle.bookrecords.proofs.lists.read_bounded.Goals as goal

pub returns-in_err-item : goal.returns-in_err-item
returns-in_err-item g c =
    list_refused (g.T.Listed.tests c.args.book.now c.args.setting.now) (g.T.Listed.at c.args.book.now) g.T.Listed.SIZE c.args.place c.loop-k.k c.loop-k.list.items c.loop-k.invariant c.SIZE.result c.SIZE.ensures
    c.from_residual.result _ c.in_err-item.field-0.0 c.args.count c.from_residual.ensures.1 c.loop-k-test.true c.in_err-item.ensures

pub loop-k-preserved : goal.loop-k-preserved
loop-k-preserved g c =
    list_more (g.T.Listed.tests c.args.book.now c.args.setting.now) (g.T.Listed.at c.args.book.now) g.T.Listed.SIZE c.args.place c.loop-k.k c.loop-k.list.items c.loop-k.invariant c.SIZE.result c.SIZE.ensures
    c.push.new.self.items c.in_ok-item.item c.in_ok-item.ensures.0 c.in_ok-item.ensures.1 c.push.ensures.items c.push.ensures.len
