use Rattle.std.proofs.Common.{◌∙◌}
use Rattle.steps.specs.Tables.{table_of}
use Rattle.steps.proofs.Read.{is_number, is_small, entry_read}
use Rattle.steps.proofs.profiles.profile_entry.Goals as goal

pub unwrap-requires : goal.unwrap-requires
unwrap-requires c =
    is_number (table_of c.args.table.now.places c.args.table.now.weights.now) c.args.first c.args.events.now c.args.p c.args.q c.in-Some.e c.in-Some.f c.count.result c.requires.readable c.in-Some.ensures.0 c.in-Some.ensures.1 (c.count.ensures ∙ c.at.ensures)

pub overflow_cast-result : goal.overflow_cast-result
overflow_cast-result c =
    is_small (table_of c.args.table.now.places c.args.table.now.weights.now) c.args.first c.args.events.now c.args.p c.args.q c.in-Some.e c.in-Some.f c.count.result c.requires.readable c.in-Some.ensures.0 c.in-Some.ensures.1 (c.count.ensures ∙ c.at.ensures) c.unwrap.result c.unwrap.ensures (record { sfits = c.unwrap.type_inv })

pub returns : goal.returns
returns c =
    entry_read (table_of c.args.table.now.places c.args.table.now.weights.now) c.args.first c.args.events.now c.args.p c.args.q c.in-Some.e c.in-Some.f c.count.result c.requires.readable c.in-Some.ensures.0 c.in-Some.ensures.1 (c.count.ensures ∙ c.at.ensures) c.unwrap.result c.unwrap.ensures (record { sfits = c.unwrap.type_inv })
