use Rattle.std.proofs.Common.{Some, refl, sym, subst}
use Rattle.bookformat.specs.Books.{book_value}
use Rattle.bookformat.proofs.Known.{is_good}
use Rattle.register.specs.declared.row.Class.{Class}
use Rattle.walk.specs.Trying.{Starts}
use Rattle.walk.proofs.Leading.{starts_some}
use Rattle.walk.proofs.stepping.first_class.Goals as goal

pub returns : goal.returns
returns c =
    subst (λ (s : Class). Starts (book_value c.args.book.now) (Some s)) (sym c.class_with.ensures.is)
    (starts_some (book_value c.args.book.now) (is_good c.args.book.now) (record { chart = c.args.book.now.first; profile = record { entries = c.in_ok-entries.entries } }) refl c.class_with.ensures.sized c.in_ok-entries.ensures)
