use Rattle.bookformat.specs.Books.{book_value}
use Rattle.examination.proofs.Sounding.{next_known}
use Rattle.examination.proofs.exam.Examination.advance_watched.Goals as goal

pub go_on-steps-requires : goal.go_on-steps-requires
go_on-steps-requires g c = next_known (book_value c.args.self.now.book) c.args.self.now.phase c.args.self.now.sound
