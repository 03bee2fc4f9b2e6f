use Rattle.std.proofs.Common.{take}
use Rattle.report.specs.Reports.{dates_text}
use Rattle.report.proofs.numbers.put_dates.Given as goal

abbrev pub invariant-loop-date : goal.invariant-loop-date
invariant-loop-date g l = g.S.Sink.Took l.initial.sink (dates_text (take l.date-index l.dates)) l.sink
