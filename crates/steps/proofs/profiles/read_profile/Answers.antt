use Rattle.std.proofs.Common.{refl, arith}
use Rattle.steps.specs.Tables.{table_of}
use Rattle.steps.proofs.Read.{read_more, read_all}
use Rattle.steps.proofs.profiles.read_profile.Goals as goal

pub loop-k-preserved : goal.loop-k-preserved
loop-k-preserved c =
    read_more (table_of c.args.table.now.places c.args.table.now.weights.now) c.args.first c.args.events.now c.loop-k.k c.loop-k.k c.loop-k.entry-items c.profile_entry.result (omega arith) refl (record { sfits = c.profile_entry.type_inv }) c.profile_entry.ensures c.loop-k.invariant

pub returns : goal.returns
returns c = read_all (table_of c.args.table.now.places c.args.table.now.weights.now) c.args.first c.args.events.now c.loop-k.k c.loop-k.entry-items (omega arith) c.loop-k.invariant
