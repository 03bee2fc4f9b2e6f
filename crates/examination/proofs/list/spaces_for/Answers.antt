use Rattle.std.proofs.Common.{◌+◌, sym, ap, ◌∙◌, subst, arith, take_all}
use Rattle.history.specs.declared.calls.Call.TheVariants.{Verdict}
use Rattle.history.specs.Histories.{spaces}
use Rattle.examination.specs.Conduct.{SpacesIs}
use Rattle.examination.proofs.Told.{spaces_more, spaces_part}
use Rattle.examination.proofs.list.spaces_for.Goals as goal

pub returns-in_err-total : goal.returns-in_err-total
returns-in_err-total c =
    let more = spaces_more c.args.calls.now c.loop-call.call-index Verdict c.loop-call-test.true in
    let part = spaces_part c.args.calls.now (c.loop-call.call-index + 1) in
    let over = c.in_err-total.ensures in
    subst (SpacesIs c.args.calls.now) (sym c.from_residual.ensures) (omega arith)

pub loop-call-preserved : goal.loop-call-preserved
loop-call-preserved c =
    let more = spaces_more c.args.calls.now c.loop-call.call-index Verdict c.loop-call-test.true in
    omega (arith, c.in_ok-total.ensures.1)

pub returns : goal.returns
returns c = c.loop-call.invariant ∙ ap spaces (take_all c.loop-call.call-index c.args.calls.now c.loop-call-test.false)
