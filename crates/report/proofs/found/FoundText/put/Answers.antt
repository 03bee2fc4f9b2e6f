use Rattle.std.proofs.Common.{subst}
use Rattle.report.specs.Reports.{runs_line}
use Rattle.report.proofs.found.FoundText.put.Goals as goal

pub returns : goal.returns
returns g c =
    let runs = subst (λ n. g.S.Sink.Took c.args.sink.now (runs_line n) c.put_runs.new.sink) c.chart_count.ensures c.put_runs.ensures in
    g.met.S.Sink.took_both _ _ _ _ _ runs c.put_lines.ensures
