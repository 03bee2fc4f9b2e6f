use Rattle.std.proofs.Common.{◌≡◌, ◌+◌, length, ap, ◌∙◌, subst, arith}
use Rattle.bookformat.specs.declared.value.Link.{Link}
use Rattle.bookformat.specs.Books.{book_value}
use Rattle.bookformat.specs.Rules.{chart}
use Rattle.bookformat.proofs.Known.{is_good}
use Rattle.paths.specs.Charts.{event_count, event_stations}
use Rattle.paths.specs.Steps.{enters}
use Rattle.paths.proofs.Facts.{chart_facts}
use Rattle.steps.specs.Parts.{entries_of}
use Rattle.steps.specs.Fillings.{places, table}
use Rattle.steps.specs.Answers.{StepAnswer}
use Rattle.steps.proofs.Filled.{usable_of}
use Rattle.steps.proofs.Places.{places_most}
use Rattle.steps.proofs.Charted.{good_link, readable}
use Rattle.steps.proofs.Stepped.{step_table, step_answer}
use Rattle.steps.proofs.fills.entered_profile.Goals as goal

pub none-bounds-requires : goal.none-bounds-requires
none-bounds-requires c =
    let good = good_link c.args.book.now c.link-link.ensures c.requires.exists in
    let most = places_most (book_value c.args.book.now) (is_good c.args.book.now) c.from-chart.result (omega (arith, c.from-chart.ensures, good.to_exists)) in
    omega (arith, most, c.from-stations.ensures, c.count.ensures, ap length c.numbered-full.ensures.stations)

pub add_crossings-requires-clause-proper : goal.add_crossings-requires-clause-proper
add_crossings-requires-clause-proper c = (good_link c.args.book.now c.link-link.ensures c.requires.exists).proper

pub add_chart-requires-clause-exists : goal.add_chart-requires-clause-exists
add_chart-requires-clause-exists c =
    let good = good_link c.args.book.now c.link-link.ensures c.requires.exists in
    omega (arith, c.from-chart.ensures, good.to_exists)

pub closed_profile-requires-clause-usable : goal.closed_profile-requires-clause-usable
closed_profile-requires-clause-usable c = usable_of c.add_chart.new.self

pub closed_profile-requires-clause-readable : goal.closed_profile-requires-clause-readable
closed_profile-requires-clause-readable c =
    let b = book_value c.args.book.now in
    let good = is_good c.args.book.now in
    let l = c.link-link.result.now in
    let entered = ap (chart b) c.from-chart.ensures in
    let is : c.as_slice-events.result.now ≡ event_stations b (enters b l) = c.as_slice-events.ensures.value ∙ c.numbered-full.ensures.stations ∙ ap (event_stations b) entered in
    let all : places c.add_chart.new.self ≡ b.stations + event_count b (chart b c.from-chart.result) = omega (arith, c.add_chart.ensures.places, c.add_crossings.ensures.places, c.add_profile.ensures.places, c.none-bounds.ensures.places, c.from-stations.ensures, c.count.ensures, ap length c.numbered-full.ensures.stations) in
    let decides = step_table b l (entries_of c.args.from.now.entries.now) is good c.from-stations.ensures entered all c.none-bounds.ensures.blank c.add_profile.ensures c.add_crossings.ensures c.add_chart.ensures in
    readable b good (enters b l) (chart_facts b good l.to) c.as_slice-events.result.now is _ (λ t. t.1) (places c.add_chart.new.self) c.from-stations.result (table c.add_chart.new.self) decides

pub returns : goal.returns
returns c =
    let b = book_value c.args.book.now in
    let good = is_good c.args.book.now in
    let l = c.link-link.result.now in
    let entered = ap (chart b) c.from-chart.ensures in
    let is : c.as_slice-events.result.now ≡ event_stations b (enters b l) = c.as_slice-events.ensures.value ∙ c.numbered-full.ensures.stations ∙ ap (event_stations b) entered in
    let all : places c.add_chart.new.self ≡ b.stations + event_count b (chart b c.from-chart.result) = omega (arith, c.add_chart.ensures.places, c.add_crossings.ensures.places, c.add_profile.ensures.places, c.none-bounds.ensures.places, c.from-stations.ensures, c.count.ensures, ap length c.numbered-full.ensures.stations) in
    subst (λ (x : Link). StepAnswer b x (entries_of c.args.from.now.entries.now) c.closed_profile.result) c.link-link.ensures
    (step_answer b l (entries_of c.args.from.now.entries.now) is good c.from-stations.ensures entered all c.none-bounds.ensures.blank c.add_profile.ensures c.add_crossings.ensures c.add_chart.ensures (chart_facts b good l.to) c.closed_profile.result c.closed_profile.ensures)
