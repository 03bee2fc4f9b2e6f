use Rattle.std.proofs.Common.{ℕ, subst}
use Rattle.bookformat.specs.Books.{book_value}
use Rattle.examination.specs.Chains.{ClimbsTo}
use Rattle.examination.proofs.Telling.{goal_runs, leg_past, leg_here}
use Rattle.examination.proofs.exam.Examination.leg.Goals as goal

pub returns-then-position-charts : goal.returns-then-position-charts
returns-then-position-charts g c =
    leg_past (book_value c.args.self.now.book) (g.R.Register.rows c.args.register.now) c.args.self.now.phase c.in_ok-row.row (goal_runs c.args.self.now.phase c.in_ok-row.row c.in_ok-row.ensures) c.charts_to-charts.result c.args.position c.charts_to-charts.ensures c.if-position-charts.true

pub returns : goal.returns
returns g c =
    leg_here (book_value c.args.self.now.book) (g.R.Register.rows c.args.register.now) c.args.self.now.phase c.in_ok-row.row (goal_runs c.args.self.now.phase c.in_ok-row.row c.in_ok-row.ensures) c.charts_to-charts.result c.args.position c.climb.result c.leg_of.result c.charts_to-charts.ensures c.if-position-charts.false (subst (λ (n : ℕ). ClimbsTo (g.R.Register.rows c.args.register.now) c.in_ok-row.row n c.climb.result) c.levels_above-levels.ensures c.climb.ensures) c.leg_of.ensures
