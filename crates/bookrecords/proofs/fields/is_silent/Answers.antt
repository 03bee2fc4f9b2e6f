use Rattle.std.proofs.Common.{◌≡◌, ◌≢◌, rules}
use Rattle.std.proofs.lemmas.Iterator.{cases_from_all, YieldsList-from_slice}
use Rattle.bookformat.proofs.Silence.{silent_is}
use Rattle.bookrecords.proofs.fields.is_silent.Goals as goal

pub returns : goal.returns
returns c =
    silent_is c.all.result c.args.events.now c.args.station
    (cases_from_all _ _ _ (λ e. e.station ≢ c.args.station) (λ e. e.station ≡ c.args.station) c.all.ensures.ran (YieldsList-from_slice c.args.events.now cc)
    (λ x q k. search rules) (λ x q k. search rules))
