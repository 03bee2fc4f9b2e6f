use Rattle.std.proofs.Common.{rules}
use Rattle.std.proofs.lemmas.Slice.{overwrites}
use Rattle.examination.proofs.list.perform_within.Goals as goal

pub returns : goal.returns
returns g c = record {
  performed = record {
    part = c.perform.new.space;
    parted = record { long = search rules; front = search (rules, overwrites); behind = search (rules, overwrites) };
    answers = c.perform.ensures.answers;
  };
  capacity = c.perform.ensures.capacity;
}
