use Rattle.std.proofs.Common.{◌++◌, length, take, subst, sym, ap, ◌∙◌, arith}
use Rattle.report.specs.Reports.{spaced, dates_text}
use Rattle.report.proofs.Dated.{dates_more, next_fits}
use Rattle.report.proofs.numbers.put_dates.Goals as goal

pub put_spaced-requires : goal.put_spaced-requires
put_spaced-requires g c =
    let fits = next_fits c.args.dates.now c.loop-date.date-index c.loop-date-test.true in
    let same = ap (λ n. length (spaced n)) c.from.ensures in
    let left = g.met.S.Sink.room_left _ _ _ c.loop-date.invariant (omega (arith, fits, c.requires)) in
    omega (arith, fits, same, left, c.requires)

pub loop-date-preserved : goal.loop-date-preserved
loop-date-preserved g c =
    let dates = c.args.dates.now in
    let i = c.loop-date.date-index in
    subst (λ text. g.S.Sink.Took c.args.sink.now text c.put_spaced.new.sink)
    (ap (λ n. dates_text (take i dates) ++ spaced n) c.from.ensures ∙ sym (dates_more dates i c.loop-date-test.true))
    (g.met.S.Sink.took_both _ _ _ _ _ c.loop-date.invariant c.put_spaced.ensures)
