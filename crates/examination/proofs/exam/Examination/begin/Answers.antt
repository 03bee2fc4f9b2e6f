use Rattle.bookformat.specs.Books.{book_value}
use Rattle.examination.proofs.Sounding.{started_next}
use Rattle.examination.proofs.exam.Examination.begin.Goals as goal

pub invariant_of-self : goal.invariant_of-self
invariant_of-self g c = record { sound = ∣ started_next (book_value c.in_ok-book.book) (g.R.Register.rows c.begin_walk-phase.new.register) c.begin_walk-phase.result c.begin_walk-phase.ensures.started ∣₁ }
