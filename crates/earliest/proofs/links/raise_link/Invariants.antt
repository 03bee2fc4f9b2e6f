use Rattle.std.proofs.Common.{◌≡◌, ◌≤◌, drop}
use Rattle.std.specs.Slice.Iter.{iter_rest}
use Rattle.paths.specs.Datings.{interval}
use Rattle.earliest.specs.Raising.{Raises}
use Rattle.earliest.specs.Demands.{Each, StationKept}
use Rattle.earliest.proofs.links.raise_link.Given as goal

-- the intervals of the stations passed have raised the dates
abbrev pub invariant-loop-station : goal.invariant-loop-station
invariant-loop-station l =
    (goal.iterator-loop-station).can_next l.station-iterator × (goal.iterator-loop-station).is_finite l.station-iterator
    × (l.station-iterator.a.end ≡ l.book.stations) × (l.station-iterator.a.start ≤ l.book.stations) × (iter_rest l.station-iterator.b ≡ drop l.station-iterator.a.start l.link.intervals)
    × Raises (Each l.station-iterator.a.start (λ p. StationKept (interval l.link p) p l.left.full.stations.items l.left.first l.entered.full.stations.items l.entered.first)) l.initial.dates l.dates l.changed
