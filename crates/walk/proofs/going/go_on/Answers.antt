use Rattle.std.proofs.Common.{refl, ◌∙◌, arith}
use Rattle.bookformat.specs.Books.{book_value}
use Rattle.walk.proofs.Onward.{under_none, under_more, gone_closed, gone_whole}
use Rattle.walk.proofs.going.go_on.Goals as goal

pub loop-steps-init : goal.loop-steps-init
loop-steps-init g c = (refl, under_none (book_value c.args.book.now) (g.R.Register.capacity c.args.register.now) (g.R.Register.rows c.args.register.now) c.args.phase c.requires)

pub returns-in_default : goal.returns-in_default
returns-in_default g c = record {
  gone = gone_closed (book_value c.args.book.now) (g.R.Register.capacity c.args.register.now) (g.R.Register.rows c.args.register.now) c.args.phase c.args.budget c.loop-steps.steps (g.R.Register.rows c.loop-steps.register) c.loop-steps.at c.loop-steps.invariant.1 c.loop-steps-test.true c.in_default.not-Open;
  capacity = c.loop-steps.invariant.0;
}

pub loop-steps-preserved : goal.loop-steps-preserved
loop-steps-preserved g c = (
  c.step-at.ensures.capacity ∙ c.loop-steps.invariant.0,
  under_more (book_value c.args.book.now) (g.R.Register.capacity c.args.register.now) (g.R.Register.capacity c.loop-steps.register) (g.R.Register.rows c.args.register.now) c.args.phase c.loop-steps.steps (g.R.Register.rows c.loop-steps.register) c.loop-steps.at c.in-Open.place c.in-Open.link (g.R.Register.rows c.step-at.new.register) c.step-at.result c.loop-steps.invariant.0 c.in-Open.is c.loop-steps.invariant.1 c.step-at.ensures.stepped,
)

pub returns : goal.returns
returns g c = record {
  gone = gone_whole (book_value c.args.book.now) (g.R.Register.capacity c.args.register.now) (g.R.Register.rows c.args.register.now) c.args.phase c.args.budget c.loop-steps.steps (g.R.Register.rows c.loop-steps.register) c.loop-steps.at c.loop-steps.invariant.1 (omega arith);
  capacity = c.loop-steps.invariant.0;
}
