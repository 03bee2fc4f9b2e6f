use Rattle.std.proofs.Common.{◌+◌, sym, ap, ◌∙◌, subst}
use Rattle.bookformat.specs.Reading.{is_silent}
use Rattle.fullchart.specs.Finds.{SilentAdded}
use Rattle.fullchart.proofs.Listed.{silent_more, silent_same}
use Rattle.fullchart.proofs.add_silent.Goals as goal
use Rattle.fullchart.proofs.add_silent.Goals.{then-is_silent, else-is_silent}

pub loop-p-preserved : goal.loop-p-preserved
loop-p-preserved c =
    let es = c.args.events.now in
    let s = c.args.stations.now in
    let p = c.loop-p.p in
    elim c.if-is_silent.branch [ then-is_silent w ↦ subst (λ t. SilentAdded s t es (p + 1)) (sym w.stations-is) (silent_more s c.loop-p.stations w.push.new.self es p (ap (is_silent es) (sym c.from.ensures) ∙ sym w.if-is_silent.ensures) c.loop-p.invariant w.push.ensures.items w.push.ensures.len) | else-is_silent w ↦ subst (λ t. SilentAdded s t es (p + 1)) (sym w.stations-is) (silent_same s c.loop-p.stations es p (ap (is_silent es) (sym c.from.ensures) ∙ sym w.if-is_silent.ensures) c.loop-p.invariant) ]
