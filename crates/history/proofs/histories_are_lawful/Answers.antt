use Rattle.history.proofs.Lawful.{history_law}
use Rattle.history.proofs.Only.{only_law}
use Rattle.history.proofs.histories_are_lawful.Goals as goal

pub returns : goal.returns
returns c = record { lawful = history_law; only = only_law }
