use Rattle.std.proofs.Common.{ℕ, List, Option, refl}
use Rattle.fullchart.specs.Finds.{FirstOn, LastOn}
use Rattle.earliest.proofs.Linked.{station_met, found}
use Rattle.earliest.proofs.links.raise_station.Goals as goal

pub returns-in-Some-Some : goal.returns-in-Some-Some
returns-in-Some-Some c =
    let left = c.args.left.now in
    let entered = c.args.entered.now in
    let p = c.args.station in
    station_met c.args.interval _ refl p left.full.stations.items left.first entered.full.stations.items entered.first c.in-Some-Some.e c.in-Some-Some.f
    (found (λ (l : List ℕ) (o : Option ℕ). LastOn l p o) c.deref.ensures.0 c.in-Some-Some.is-0 c.last_on-last.ensures)
    (found (λ (l : List ℕ) (o : Option ℕ). FirstOn l p o) c.deref-2.ensures.0 c.in-Some-Some.is-1 c.first_on-first.ensures)
    c.raise_interval.ensures
