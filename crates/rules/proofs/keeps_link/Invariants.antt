use Rattle.std.proofs.Common.{◌≡◌, ℕ, ◌<◌, ◌≤◌, drop}
use Rattle.std.specs.Slice.Iter.{iter_rest}
use Rattle.paths.specs.Datings.{interval}
use Rattle.rules.specs.Checks.{StationKept}
use Rattle.rules.proofs.keeps_link.Given as goal

-- the intervals of the stations passed hold
abbrev pub invariant-loop-station : goal.invariant-loop-station
invariant-loop-station l =
    (goal.iterator-loop-station).can_next l.station-iterator × (goal.iterator-loop-station).is_finite l.station-iterator
    × (l.station-iterator.a.end ≡ l.stations) × (l.station-iterator.a.start ≤ l.stations) × (iter_rest l.station-iterator.b ≡ drop l.station-iterator.a.start l.link.intervals)
    × ((p : ℕ) → p < l.station-iterator.a.start → StationKept (interval l.link p) p l.before.full.now.stations.items l.before.dates.now l.after.full.now.stations.items l.after.dates.now)
