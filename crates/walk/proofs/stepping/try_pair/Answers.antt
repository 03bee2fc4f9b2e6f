use Rattle.std.proofs.Common.{sym, refl, subst}
use Rattle.bookformat.specs.Books.{book_value}
use Rattle.bookformat.proofs.Known.{is_good}
use Rattle.walk.specs.declared.outcome.Outcome.{Outcome}
use Rattle.walk.specs.Trying.{Tried}
use Rattle.walk.proofs.Entering.{tried_barred, tried_entered}
use Rattle.walk.proofs.stepping.try_pair.Goals as goal

pub returns-in_default : goal.returns-in_default
returns-in_default g c = record {
  tried = tried_barred (book_value c.args.book.now) (g.R.Register.capacity c.args.register.now) (g.R.Register.rows c.args.register.now) c.args.place c.args.link (is_good c.args.book.now) c.row_at-from.result.class c.row_at-from.ensures.alike c.in_default.ensures;
  capacity = refl;
}

pub returns : goal.returns
returns g c = record {
  tried = subst (λ (o : Outcome). Tried (book_value c.args.book.now) (g.R.Register.capacity c.args.register.now) (g.R.Register.rows c.args.register.now) c.args.place c.args.link o (g.R.Register.rows c.enter.new.self)) (sym c.from.ensures)
      (tried_entered (book_value c.args.book.now) (g.R.Register.capacity c.args.register.now) (g.R.Register.rows c.args.register.now) c.args.place c.args.link (is_good c.args.book.now) c.row_at-from.result.class c.row_at-from.ensures.alike _ refl c.in-Some.ensures c.enter.result (g.R.Register.rows c.enter.new.self) c.enter.ensures.rows);
  capacity = c.enter.ensures.capacity;
}
