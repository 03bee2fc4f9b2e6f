use Rattle.std.proofs.Common.{◌≡◌, List, subst}
use Rattle.bookformat.specs.declared.value.Event.{Event}
use Rattle.bookformat.specs.Layout.{constraint_at}
use Rattle.bookformat.specs.Reading.{constraint_tests}
use Rattle.bookrecords.specs.Answers.{Tested}
use Rattle.bookrecords.proofs.singles.ConstraintListedBoundedEvent40.read.Goals as goal

pub returns : goal.returns
returns g c =
    let b = c.args.book.now in
    let place = c.args.place in
    subst (λ (es : List Event). Tested c.read_constraint.result (constraint_tests b es place) (λ x. x ≡ constraint_at b place)) c.deref.ensures.0 c.read_constraint.ensures
