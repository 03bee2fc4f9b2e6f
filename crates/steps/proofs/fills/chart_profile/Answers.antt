use Rattle.std.proofs.Common.{◌≡◌, length, ap, ◌∙◌, arith}
use Rattle.bookformat.specs.Books.{book_value}
use Rattle.bookformat.specs.Rules.{chart}
use Rattle.bookformat.proofs.Known.{is_good}
use Rattle.paths.specs.Charts.{event_count}
use Rattle.paths.proofs.Facts.{chart_facts}
use Rattle.steps.specs.Fillings.{places, table}
use Rattle.steps.proofs.Filled.{usable_of}
use Rattle.steps.proofs.Charted.{readable}
use Rattle.steps.proofs.Stepped.{chart_table, chart_answer}
use Rattle.steps.proofs.fills.chart_profile.Goals as goal

pub closed_profile-requires-clause-usable : goal.closed_profile-requires-clause-usable
closed_profile-requires-clause-usable c = usable_of c.add_chart.new.self

pub closed_profile-requires-clause-readable : goal.closed_profile-requires-clause-readable
closed_profile-requires-clause-readable c =
    let b = book_value c.args.book.now in
    let good = is_good c.args.book.now in
    let all : places c.add_chart.new.self ≡ event_count b (chart b c.args.number) = omega (arith, c.add_chart.ensures.places, c.none-bounds.ensures.places, c.count.ensures, ap length c.numbered-full.ensures.stations) in
    readable b good (chart b c.args.number) (chart_facts b good c.args.number) c.deref.result.now (c.deref.ensures.0 ∙ c.numbered-full.ensures.stations) _ (λ s. s.0) (places c.add_chart.new.self) 0 (table c.add_chart.new.self) (chart_table good all c.none-bounds.ensures.blank c.add_chart.ensures)

pub returns : goal.returns
returns c =
    let b = book_value c.args.book.now in
    let good = is_good c.args.book.now in
    let all : places c.add_chart.new.self ≡ event_count b (chart b c.args.number) = omega (arith, c.add_chart.ensures.places, c.none-bounds.ensures.places, c.count.ensures, ap length c.numbered-full.ensures.stations) in
    chart_answer good all c.none-bounds.ensures.blank c.add_chart.ensures (chart_facts b good c.args.number) (c.deref.ensures.0 ∙ c.numbered-full.ensures.stations) c.closed_profile.result c.closed_profile.ensures
