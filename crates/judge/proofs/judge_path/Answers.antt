use Rattle.std.proofs.Common.{ℕ, List, refl, subst₂}
use Rattle.bookformat.specs.Books.{book_value}
use Rattle.paths.specs.Listing.{written}
use Rattle.routes.specs.declared.path.BookPath.{BookPath}
use Rattle.judge.specs.Judging.{Says, judgement}
use Rattle.judge.proofs.Faults.{count_refused}
use Rattle.judge.proofs.judge_path.Goals as goal

pub returns-in_err-dated : goal.returns-in_err-dated
returns-in_err-dated c =
    let path = c.args.path.now in
    count_refused (book_value path.book.now) path.links.now c.args.dates.now c.in_err-dated.field-0.0 c.from_residual.result (record { is_path = path.path; length_most = path.few })
    c.from_residual.ensures.1 c.in_err-dated.ensures.checked

pub returns : goal.returns
returns c =
    let path = c.args.path.now in
    judgement c.judge.result (record { is_path = path.path; length_most = path.few }) c.in_ok-dated.ensures.checked
    (subst₂ (λ (p : BookPath) (l : List ℕ). Says (book_value p.book.now) p.links.now (written (book_value p.book.now) p.links.now l) c.judge.result) c.in_ok-dated.ensures.path c.in_ok-dated.ensures.dates c.judge.ensures)
    refl
