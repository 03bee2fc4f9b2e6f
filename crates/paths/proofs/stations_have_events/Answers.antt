use Rattle.paths.proofs.Full.{first_event, last_event, one_first, one_last}
use Rattle.paths.proofs.Deciding.{dating_sees}
use Rattle.paths.proofs.stations_have_events.Goals as goal

pub returns : goal.returns
returns c = record { events = record { first = first_event; last = last_event; one_first = one_first; one_last = one_last }; sees = dating_sees }
