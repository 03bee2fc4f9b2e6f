use Rattle.std.proofs.Common.{subst}
use Rattle.report.specs.Texts.{blank, number_text}
use Rattle.report.proofs.notices.RefusalText.put.Goals as goal

pub returns : goal.returns
returns g c =
    let sink = g.met.S.Sink in
    let number = subst (λ n. g.S.Sink.Took c.put.new.self (number_text n blank) c.put_ended.new.sink) c.from.ensures c.put_ended.ensures in
    let layer = subst (λ n. g.S.Sink.Took c.put_ended.new.sink (number_text n blank) c.put_ended-2.new.sink) c.from-2.ensures c.put_ended-2.ensures in
    sink.took_both _ _ _ _ _ c.put.ensures (sink.took_both _ _ _ _ _ number (sink.took_both _ _ _ _ _ layer c.put_ended-3.ensures))
