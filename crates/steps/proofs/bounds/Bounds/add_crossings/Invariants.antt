use Rattle.std.proofs.Common.{◌≡◌, ◌≤◌, drop}
use Rattle.std.specs.Slice.Iter.{iter_rest}
use Rattle.steps.specs.Fillings.{Adds}
use Rattle.steps.specs.Parts.{CrossingsKept}
use Rattle.steps.proofs.bounds.Bounds.add_crossings.Given as goal

-- the stations passed are entered
abbrev pub invariant-loop-p : goal.invariant-loop-p
invariant-loop-p l =
    (goal.iterator-loop-p).can_next l.p-iterator × (goal.iterator-loop-p).is_finite l.p-iterator
    × (l.p-iterator.a.end ≡ l.stations) × (l.p-iterator.a.start ≤ l.stations) × (iter_rest l.p-iterator.b ≡ drop l.p-iterator.a.start l.intervals)
    × Adds l.initial.self l.self (CrossingsKept l.intervals l.events l.stations l.p-iterator.a.start)
