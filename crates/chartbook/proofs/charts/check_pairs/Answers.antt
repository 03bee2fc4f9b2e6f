use Rattle.std.proofs.Common.{List, subst}
use Rattle.bookformat.specs.declared.value.Event.{Event}
use Rattle.chartbook.specs.Answers.{AllPaired, FirstUnpaired}
use Rattle.chartbook.proofs.Pairs.{pairs_pass, pairs_fail_at}
use Rattle.chartbook.proofs.charts.check_pairs.Goals as goal

pub returns-in-Some : goal.returns-in-Some
returns-in-Some c = pairs_fail_at c.args.events.now.items c.args.place c.in-Some.e (subst (λ (l : List Event). FirstUnpaired l c.in-Some.e) c.deref.ensures.0 c.in-Some.ensures)

pub returns-in-None : goal.returns-in-None
returns-in-None c = (pairs_pass c.args.events.now.items c.args.place _ (subst AllPaired c.deref.ensures.0 c.in-None.ensures), record {})
