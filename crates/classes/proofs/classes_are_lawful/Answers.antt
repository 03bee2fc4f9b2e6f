use Rattle.classes.proofs.Lawfully.{classes_law}
use Rattle.classes.proofs.classes_are_lawful.Goals as goal

pub returns : goal.returns
returns c = classes_law
