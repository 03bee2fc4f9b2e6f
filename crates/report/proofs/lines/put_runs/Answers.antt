use Rattle.report.proofs.lines.put_runs.Goals as goal

pub returns : goal.returns
returns g c =
    let sink = g.met.S.Sink in
    sink.took_both _ _ _ _ _ (sink.took_both _ _ _ _ _ c.put_word.ensures c.put_spaced.ensures) c.put.ensures
