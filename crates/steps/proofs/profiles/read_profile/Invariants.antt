use Rattle.steps.specs.Tables.{table_of}
use Rattle.steps.proofs.Read.{ReadBelow}
use Rattle.steps.proofs.profiles.read_profile.Given as goal

-- the entries passed are read
abbrev pub invariant-loop-k : goal.invariant-loop-k
invariant-loop-k l = ReadBelow (table_of l.table.places l.table.weights.now) l.first l.events l.k l.entry-items
