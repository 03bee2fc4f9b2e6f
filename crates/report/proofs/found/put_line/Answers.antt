use Rattle.std.proofs.Common.{subst}
use Rattle.report.specs.Reports.{dates_text}
use Rattle.report.proofs.found.put_line.Goals as goal

pub returns : goal.returns
returns g c =
    let sink = g.met.S.Sink in
    let dates = subst (λ ds. g.S.Sink.Took c.put_spaced.new.sink (dates_text ds) c.put_dates.new.sink) c.dates.ensures c.put_dates.ensures in
    sink.took_both _ _ _ _ _ (sink.took_both _ _ _ _ _ (sink.took_both _ _ _ _ _ c.put_link.ensures c.put_spaced.ensures) dates) c.put.ensures
