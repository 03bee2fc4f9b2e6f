use Rattle.std.proofs.Common.{ℕ, Some, sym, refl, ap, ◌∙◌, subst, true≢false}
use Rattle.bookformat.specs.declared.value.Link.{Link}
use Rattle.bookformat.specs.Books.{book_value}
use Rattle.bookformat.proofs.Known.{is_good}
use Rattle.paths.specs.Paths.{link, Leaves}
use Rattle.steps.specs.Answers.{StepAnswer}
use Rattle.classes.specs.Classes.{entry}
use Rattle.register.specs.declared.row.Class.{Class}
use Rattle.walk.specs.Trying.{LedTo}
use Rattle.walk.proofs.Leading.{leads_some, leads_elsewhere}
use Rattle.walk.proofs.stepping.lead.Goals as goal

pub returns-in_err-taken : goal.returns-in_err-taken
returns-in_err-taken c =
    let b = book_value c.args.book.now in
    subst (LedTo b c.args.from.now c.args.link) (sym c.from_residual.ensures)
    (leads_elsewhere b (is_good c.args.book.now) c.args.from.now c.args.link (λ leaves.
    true≢false (sym (c.in_err-taken.ensures.leaves.1 (subst (Leaves b c.args.from.now.chart) (sym c.from-number.ensures) leaves)))))

pub returns : goal.returns
returns c =
    let b = book_value c.args.book.now in
    let leaves = subst (Leaves b c.args.from.now.chart) c.from-number.ensures (c.in_ok-taken.ensures.leaves.0 refl) in
    let e = c.in_ok-taken.ensures.link ∙ ap (link b) c.from-number.ensures in
    subst (λ (s : Class). LedTo b c.args.from.now c.args.link (Some s)) (sym c.class_with.ensures.is)
    (leads_some b (is_good c.args.book.now) c.args.from.now _ c.args.link leaves.0 leaves.1 (ap (λ (x : Link). x.to) e) c.class_with.ensures.sized (c.if-not-is_in_range.ensures.0 refl)
    (subst (λ (n : ℕ). StepAnswer b (link b n) (entry c.args.from.now) (Some c.in_ok-entries.entries)) c.from-number.ensures c.in_ok-entries.ensures))
