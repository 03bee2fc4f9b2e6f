use Rattle.classes.proofs.Lawfully.{ranged_law}
use Rattle.classes.proofs.ranged_classes_are_lawful.Goals as goal

pub returns : goal.returns
returns c = ranged_law
