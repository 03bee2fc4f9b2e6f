use Rattle.std.proofs.Common.{arith}
use Rattle.earliest.proofs.Risen.{raised}
use Rattle.earliest.proofs.raising.raise.Goals as goal

pub returns : goal.returns
returns c = raised c.args.dates.now c.args.at c.args.date c.requires (omega arith) (omega arith)
