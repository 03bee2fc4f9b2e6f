use Rattle.std.proofs.Common.{length, ap, subst₂, ⊎_elim, arith}
use Rattle.std.proofs.lemmas.List.{length-drop}
use Rattle.bookformat.specs.Rules.{unbounded}
use Rattle.steps.specs.Fillings.{Adds}
use Rattle.steps.specs.Parts.{CrossingKept}
use Rattle.steps.proofs.Filled.{adds_more, adds_all}
use Rattle.fullchart.proofs.Listed.{taken}
use Rattle.steps.proofs.bounds.Bounds.add_crossings.Goals as goal

pub loop-p-preserved : goal.loop-p-preserved
loop-p-preserved c =
    let turn = c.in-Some.ensures.steps.0 in
    let next = taken c.args.intervals.now c.loop-p.p-iterator.a.start unbounded c.loop-p.invariant.4 c.in-Some.ensures.steps.1 turn.1.2 in (
      (tt, tt),
      tt,
      omega arith,
      omega (arith, turn),
      next.0,
      adds_all (omega (arith, turn)) (adds_more c.loop-p.invariant.5 (subst₂ (λ i q. Adds c.loop-p.self c.add_crossing.new.self (CrossingKept i c.args.events.now c.args.stations q)) next.1 turn.1.1 c.add_crossing.ensures)),
    )

pub returns : goal.returns
returns c =
    adds_all (⊎_elim (λ done. omega (arith, done.1)) (λ done. omega (arith, c.told-intervals, done.1.0, ap length c.loop-p.invariant.4, length-drop c.loop-p.p-iterator.a.start c.args.intervals.now)) c.in-None.ensures.steps) c.loop-p.invariant.5
