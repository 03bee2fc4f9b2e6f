use Rattle.std.proofs.Common.{refl, ⊎_elim}
use Rattle.bookformat.specs.Books.{book_value}
use Rattle.register.specs.Meaning.{row_at}
use Rattle.walk.proofs.Entering.{follows_runs, follows_on, follows_barred, follows_known}
use Rattle.walk.proofs.stepping.phase_after.Goals as goal

pub returns-then-is_final_row : goal.returns-then-is_final_row
returns-then-is_final_row g c =
    follows_runs (book_value c.args.book.now) (g.R.Register.rows c.args.register.now) c.args.place c.args.link c.args.outcome c.in-New.at c.in-New.is (row_at (g.R.Register.rows c.args.register.now) c.in-New.at) refl c.is_final_row.result c.is_final_row.ensures c.if-is_final_row.true

pub returns-else-is_final_row : goal.returns-else-is_final_row
returns-else-is_final_row g c =
    follows_on (book_value c.args.book.now) (g.R.Register.rows c.args.register.now) c.args.place c.args.link c.args.outcome c.in-New.at c.in-New.is (row_at (g.R.Register.rows c.args.register.now) c.in-New.at) refl c.is_final_row.result c.is_final_row.ensures c.args.link c.pair_behind.result refl c.if-is_final_row.false c.pair_behind.ensures

pub returns-in-Barred : goal.returns-in-Barred
returns-in-Barred g c =
    ⊎_elim
    (λ is. follows_barred (book_value c.args.book.now) (g.R.Register.rows c.args.register.now) c.args.place c.args.link c.args.outcome c.args.link c.pair_behind-in-Barred.result refl is c.pair_behind-in-Barred.ensures)
    (λ known. follows_known (book_value c.args.book.now) (g.R.Register.rows c.args.register.now) c.args.place c.args.link c.args.outcome c.args.link known.0 c.pair_behind-in-Barred.result refl known.1 c.pair_behind-in-Barred.ensures)
    c.in-Barred.is
