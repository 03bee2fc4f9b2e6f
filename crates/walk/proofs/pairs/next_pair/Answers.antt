use Rattle.std.proofs.Common.{ℕ, Some, None, subst, arith}
use Rattle.bookformat.specs.Books.{book_value}
use Rattle.walk.specs.Trying.{FirstFrom}
use Rattle.walk.proofs.Seeking.{sought_found, sought_more, sought_none}
use Rattle.walk.proofs.pairs.next_pair.Goals as goal

pub returns-in-Some : goal.returns-in-Some
returns-in-Some g c =
    sought_found (book_value c.args.book.now) (g.R.Register.rows c.args.register.now) c.args.place c.args.link c.loop-at.at c.loop-at.start c.in-Some.number c.loop-at.invariant (omega arith)
    (subst (λ (n : ℕ). FirstFrom (book_value c.args.book.now) n c.loop-at.start (Some c.in-Some.number)) c.row_at.ensures.alike.chart c.in-Some.ensures)

pub loop-at-preserved : goal.loop-at-preserved
loop-at-preserved g c =
    sought_more (book_value c.args.book.now) (g.R.Register.rows c.args.register.now) c.args.place c.args.link c.loop-at.at c.loop-at.start c.loop-at.invariant
    (subst (λ (n : ℕ). FirstFrom (book_value c.args.book.now) n c.loop-at.start None) c.row_at.ensures.alike.chart c.in_default.ensures)

pub returns : goal.returns
returns g c = sought_none (book_value c.args.book.now) (g.R.Register.rows c.args.register.now) c.args.place c.args.link c.loop-at.at c.loop-at.start c.loop-at.invariant (omega arith)
