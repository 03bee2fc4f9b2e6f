use Rattle.closure.specs.Closings.{FilledBefore}
use Rattle.closure.proofs.tables.Table.fill.Given as goal

-- the entries passed are written
abbrev pub invariant-loop-place : goal.invariant-loop-place
invariant-loop-place g l =
    goal.F-IsAlwaysCallable g l.weight
    × FilledBefore (λ i j w. goal.F-post g l.weight i j w) l.places l.entry-items l.place
