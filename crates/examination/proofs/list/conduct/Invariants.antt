use Rattle.std.proofs.Common.{◌≡◌}
use Rattle.examination.specs.Views.{view_of}
use Rattle.examination.proofs.Told.{Told}
use Rattle.examination.proofs.list.conduct.Given as goal

abbrev pub invariant-loop-place : goal.invariant-loop-place
invariant-loop-place g l =
    (g.R.Register.capacity l.register ≡ g.R.Register.capacity l.initial.register)
    × Told (g.R.Register.capacity l.initial.register) l.calls l.initial.answers l.initial.dates l.place l.start l.answers l.dates (view_of l.examination.book l.examination.phase (g.R.Register.rows l.register))
