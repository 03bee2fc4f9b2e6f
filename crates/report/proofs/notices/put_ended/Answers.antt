use Rattle.report.proofs.notices.put_ended.Goals as goal

pub returns : goal.returns
returns g c = g.met.S.Sink.took_both _ _ _ _ _ c.put_number.ensures c.put.ensures
