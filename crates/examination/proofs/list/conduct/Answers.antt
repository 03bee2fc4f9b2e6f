use Rattle.std.proofs.Common.{refl, ◌∙◌, arith}
use Rattle.history.specs.declared.calls.Call.TheVariants.{Verdict}
use Rattle.examination.specs.Views.{view_of}
use Rattle.examination.proofs.Told.{told_none, told_end, told_more, told_all, told_beyond}
use Rattle.examination.proofs.list.conduct.Goals as goal

pub loop-place-init : goal.loop-place-init
loop-place-init g c = (refl, told_none (g.R.Register.capacity c.args.register.now) c.args.calls.now c.args.answers.now c.args.dates.now (view_of c.new-examination.result.book c.new-examination.result.phase (g.R.Register.rows c.args.register.now)) c.new-examination.ensures)

pub overflow_add-end : goal.overflow_add-end
overflow_add-end g c =
    let end = told_end (g.R.Register.capacity c.args.register.now) c.args.calls.now c.args.answers.now c.args.dates.now c.loop-place.place c.loop-place.start c.loop-place.answers c.loop-place.dates _ c.loop-place.invariant.1 Verdict c.space_for.result c.space_for.ensures c.loop-place-test.true in
    record { fits = omega (arith, c.in_ok-check_room.ensures.for_dates) }

pub perform_within-requires : goal.perform_within-requires
perform_within-requires g c =
    let end = told_end (g.R.Register.capacity c.args.register.now) c.args.calls.now c.args.answers.now c.args.dates.now c.loop-place.place c.loop-place.start c.loop-place.answers c.loop-place.dates _ c.loop-place.invariant.1 Verdict c.space_for.result c.space_for.ensures c.loop-place-test.true in
    (omega arith, omega (arith, c.in_ok-check_room.ensures.for_dates))

pub loop-place-preserved : goal.loop-place-preserved
loop-place-preserved g c =
    let end = told_end (g.R.Register.capacity c.args.register.now) c.args.calls.now c.args.answers.now c.args.dates.now c.loop-place.place c.loop-place.start c.loop-place.answers c.loop-place.dates _ c.loop-place.invariant.1 Verdict c.space_for.result c.space_for.ensures c.loop-place-test.true in (
      c.perform_within.ensures.capacity ∙ c.loop-place.invariant.0,
      told_more (g.R.Register.capacity c.args.register.now) c.args.calls.now c.args.answers.now c.args.dates.now c.loop-place.place c.loop-place.start c.loop-place.answers c.loop-place.dates _ c.loop-place.invariant.1 Verdict c.space_for.result c.space_for.ensures c.loop-place-test.true
          (g.R.Register.capacity c.loop-place.register) c.loop-place.invariant.0 (omega (arith, c.in_ok-check_room.ensures.for_answers)) (omega (arith, c.in_ok-check_room.ensures.for_dates)) c.perform_within.result c.perform_within.new.dates _ c.perform_within.ensures.performed,
    )

pub returns : goal.returns
returns g c =
    record {
      room = c.in_ok-check_room.ensures;
      conducted = told_all (g.R.Register.capacity c.args.register.now) c.args.calls.now c.args.answers.now c.args.dates.now c.loop-place.place c.loop-place.start c.loop-place.answers c.loop-place.dates _ (omega arith) c.loop-place.invariant.1;
      beyond = told_beyond (g.R.Register.capacity c.args.register.now) c.args.calls.now c.args.answers.now c.args.dates.now c.loop-place.place c.loop-place.start c.loop-place.answers c.loop-place.dates _ (omega arith) c.loop-place.invariant.1;
    }
