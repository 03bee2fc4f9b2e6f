use Rattle.report.proofs.numbers.put_spaced.Goals as goal

pub returns : goal.returns
returns g c = g.met.S.Sink.took_both _ _ _ _ _ c.put.ensures c.put_number.ensures
