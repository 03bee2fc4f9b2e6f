use Rattle.bookformat.proofs.Taken.{taken_good}
use Rattle.bookformat.proofs.GoodTaken.{good_taken, good_read}
use Rattle.bookformat.proofs.tests_match_rules.Goals as goal

pub returns : goal.returns
returns c = record { taken = taken_good; good = good_taken; read = good_read }
