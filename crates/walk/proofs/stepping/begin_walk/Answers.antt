use Rattle.std.proofs.Common.{◌<◌, refl, ◌∙◌, arith}
use Rattle.bookformat.specs.Books.{book_value}
use Rattle.bookformat.proofs.Known.{is_good}
use Rattle.walk.proofs.Entering.{started_runs, started_found}
use Rattle.walk.proofs.stepping.begin_walk.Goals as goal

pub returns-then-is_final : goal.returns-then-is_final
returns-then-is_final g c =
    let room : 0 < g.R.Register.capacity c.clear.new.self = omega arith in
    record {
      started = started_runs (book_value c.args.book.now) (is_good c.args.book.now) (g.R.Register.capacity c.clear.new.self) (g.R.Register.rows c.clear.new.self) _ c.enter.result (g.R.Register.rows c.enter.new.self) c.clear.ensures.rows room refl c.enter.ensures.rows c.in-Some.ensures c.is_final.result c.is_final.ensures c.if-is_final.true;
      capacity = c.enter.ensures.capacity ∙ c.clear.ensures.capacity;
    }

pub returns : goal.returns
returns g c =
    let room : 0 < g.R.Register.capacity c.clear.new.self = omega arith in
    record {
      started = started_found (book_value c.args.book.now) (is_good c.args.book.now) (g.R.Register.capacity c.clear.new.self) (g.R.Register.rows c.clear.new.self) _ c.enter.result (g.R.Register.rows c.enter.new.self) c.clear.ensures.rows room refl c.enter.ensures.rows c.in-Some.ensures c.is_final.result c.first_pair.result c.is_final.ensures c.if-is_final.false c.first_pair.ensures;
      capacity = c.enter.ensures.capacity ∙ c.clear.ensures.capacity;
    }
