use Rattle.examination.proofs.Telling.{charts_runs, charts_else}
use Rattle.std.proofs.Common.{refl}
use Rattle.examination.proofs.exam.charts_in.Goals as goal

pub returns-in-Runs : goal.returns-in-Runs
returns-in-Runs g c = λ b. charts_runs b (g.R.Register.rows c.args.register.now) c.args.phase c.in-Runs.row c.charts_to.result c.in-Runs.is c.charts_to.ensures

pub returns-in_default : goal.returns-in_default
returns-in_default g c = λ b. charts_else b (g.R.Register.rows c.args.register.now) c.args.phase 0 c.in_default.not-Runs refl
