use Rattle.std.proofs.Common.{◌≡◌, ◌+◌, length, ap, subst₂, ⊎_elim, arith, rules}
use Rattle.std.proofs.lemmas.List.{length-drop}
use Rattle.bookformat.specs.Books.{book_value}
use Rattle.bookformat.specs.Rules.{unbounded}
use Rattle.bookformat.proofs.Known.{is_good}
use Rattle.fullchart.proofs.Listed.{taken}
use Rattle.earliest.specs.Raising.{Raises}
use Rattle.earliest.specs.Demands.{StationKept}
use Rattle.earliest.proofs.Risen.{one_more, all_met}
use Rattle.earliest.proofs.Linked.{link_met}
use Rattle.earliest.proofs.links.raise_link.Goals as goal

pub loop-station-preserved : goal.loop-station-preserved
loop-station-preserved c =
    let turn = c.in-Some.ensures.steps.0 in
    let next = taken c.args.link.now.intervals c.loop-station.station-iterator.a.start unbounded c.loop-station.invariant.4 c.in-Some.ensures.steps.1 turn.1.2 in (
      (tt, tt),
      tt,
      omega arith,
      omega (arith, turn),
      next.0,
      all_met _ (c.loop-station.station-iterator.a.start + 1) _ (omega (arith, turn)) (omega (arith, turn)) (one_more _ c.loop-station.station-iterator.a.start c.loop-station.invariant.5
          (subst₂ (λ i p. Raises (StationKept i p c.args.left.now.full.stations.items c.args.left.now.first c.args.entered.now.full.stations.items c.args.entered.now.first) c.loop-station.dates c.raise_station-changed.new.dates c.raise_station-changed.result) next.1 turn.1.1 c.raise_station-changed.ensures)),
    )

pub returns : goal.returns
returns c =
    let eight : length c.args.link.now.intervals ≡ 8 = search rules in
    let all : c.loop-station.station-iterator.a.start ≡ (book_value c.args.book.now).stations =
    ⊎_elim (λ done. omega (arith, done.1)) (λ done. omega (arith, eight, (is_good c.args.book.now).stations_most, done.1.0, ap length c.loop-station.invariant.4, length-drop c.loop-station.station-iterator.a.start c.args.link.now.intervals)) c.in-None.ensures.steps in
    link_met (book_value c.args.book.now) c.args.link.now c.args.left.now c.args.entered.now _ c.requires.left c.requires.entered
    (all_met _ c.loop-station.station-iterator.a.start _ (omega (arith, all)) (omega (arith, all)) c.loop-station.invariant.5)
