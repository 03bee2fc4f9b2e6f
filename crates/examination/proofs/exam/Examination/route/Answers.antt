use Rattle.std.proofs.Common.{Ok, sym, subst}
use Rattle.history.specs.declared.phase.Phase.{Phase}
use Rattle.examination.specs.Routes.{RouteIn}
use Rattle.examination.proofs.Telling.{goal_runs}
use Rattle.examination.proofs.exam.Examination.route.Goals as goal

pub returns : goal.returns
returns g c =
    subst (λ (f : Phase). RouteIn (g.R.Register.rows c.args.register.now) f (Ok c.links_to.result))
    (sym (goal_runs c.args.self.now.phase c.in_ok-row.row c.in_ok-row.ensures)) c.links_to.ensures
