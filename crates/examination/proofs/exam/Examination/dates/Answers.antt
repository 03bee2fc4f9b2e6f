use Rattle.bookformat.specs.Books.{book_value}
use Rattle.examination.proofs.Telling.{goal_runs, dates_of_lem}
use Rattle.examination.proofs.exam.Examination.dates.Goals as goal

pub returns : goal.returns
returns g c = record {
  dates = dates_of_lem (book_value c.args.self.now.book) (g.R.Register.rows c.args.register.now) c.args.self.now.phase c.in_ok-row.row (goal_runs c.args.self.now.phase c.in_ok-row.row c.in_ok-row.ensures) c.deref.result.now _ c.args.space.now c.date_links.result c.date_links.new.space c.deref.ensures.0 c.links_to.ensures c.date_links.ensures;
  rest = c.date_links.ensures.rest;
}
