use Rattle.std.proofs.Common.{◌≡◌, true, false, rules}
use Rattle.std.proofs.lemmas.Iterator.{first_from_Range}
use Rattle.bookformat.specs.Reading.{is_paired}
use Rattle.chartbook.proofs.Pairs.{first_is}
use Rattle.chartbook.proofs.charts.first_unpaired.Goals as goal

pub returns : goal.returns
returns c =
    let es = c.args.events.now in
    first_is es c.find.result
    (first_from_Range _ _ _ c.find.result (λ e. is_paired es e ≡ false) (λ e. is_paired es e ≡ true) c.find.ensures.ran (λ x q k. search rules) (λ x q k. search rules))
