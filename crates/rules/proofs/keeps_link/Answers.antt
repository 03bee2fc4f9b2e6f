use Rattle.std.proofs.Common.{◌≡◌, ℕ, ◌<◌, Decides, length, ap, subst₂, ⊎_elim, arith, rules, below_more}
use Rattle.std.proofs.lemmas.List.{length-drop}
use Rattle.bookformat.specs.Rules.{unbounded}
use Rattle.paths.specs.Datings.{interval}
use Rattle.fullchart.proofs.Listed.{taken}
use Rattle.rules.specs.Checks.{StationKept}
use Rattle.rules.proofs.keeps_link.Goals as goal

pub returns-then-not-keeps_station : goal.returns-then-not-keeps_station
returns-then-not-keeps_station c =
    let turn = c.in-Some.ensures.steps.0 in
    let p = c.loop-station.station-iterator.a.start in
    let next = taken c.args.link.now.intervals p unbounded c.loop-station.invariant.4 c.in-Some.ensures.steps.1 turn.1.2 in
    let kept = subst₂ (λ i q. Decides c.keeps_station.result (StationKept i q c.args.before.now.full.now.stations.items c.args.before.now.dates.now c.args.after.now.full.now.stations.items c.args.after.now.dates.now)) next.1 turn.1.1 c.keeps_station.ensures in
    let inside : p < c.args.stations = omega (arith, turn) in
    search (rules, kept, inside)

pub loop-station-preserved : goal.loop-station-preserved
loop-station-preserved c =
    let turn = c.in-Some.ensures.steps.0 in
    let p = c.loop-station.station-iterator.a.start in
    let next = taken c.args.link.now.intervals p unbounded c.loop-station.invariant.4 c.in-Some.ensures.steps.1 turn.1.2 in
    let kept = subst₂ (λ i q. Decides c.keeps_station.result (StationKept i q c.args.before.now.full.now.stations.items c.args.before.now.dates.now c.args.after.now.full.now.stations.items c.args.after.now.dates.now)) next.1 turn.1.1 c.keeps_station.ensures in
    let here : StationKept (interval c.args.link.now p) p c.args.before.now.full.now.stations.items c.args.before.now.dates.now c.args.after.now.full.now.stations.items c.args.after.now.dates.now = kept.0 (search rules) in (
      (tt, tt),
      tt,
      omega arith,
      omega (arith, turn),
      next.0,
      λ q h. below_more (λ r. StationKept (interval c.args.link.now r) r c.args.before.now.full.now.stations.items c.args.before.now.dates.now c.args.after.now.full.now.stations.items c.args.after.now.dates.now) p c.loop-station.invariant.5 here q (omega (arith, turn)),
    )

pub returns : goal.returns
returns c =
    let eight : length c.args.link.now.intervals ≡ 8 = search rules in
    let all : c.loop-station.station-iterator.a.start ≡ c.args.stations =
    ⊎_elim (λ done. omega (arith, done.1)) (λ done. omega (arith, eight, c.requires, done.1.0, ap length c.loop-station.invariant.4, length-drop c.loop-station.station-iterator.a.start c.args.link.now.intervals)) c.in-None.ensures.steps in
    let every : (p : ℕ) → p < c.args.stations → StationKept (interval c.args.link.now p) p c.args.before.now.full.now.stations.items c.args.before.now.dates.now c.args.after.now.full.now.stations.items c.args.after.now.dates.now =
    λ p h. c.loop-station.invariant.5 p (omega (arith, all)) in
    search (rules, every)
