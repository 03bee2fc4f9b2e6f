use Rattle.std.proofs.Common.{rules}
use Rattle.std.proofs.lemmas.Iterator.{YieldsList-from_slice, IsFirst-from_position}
use Rattle.closure.proofs.Searches.{first_beyond}
use Rattle.closure.proofs.tables.Table.first_beyond.Goals as goal

pub returns : goal.returns
returns g c =
    let meaning = g.W.Weight.meaning in
    let l = c.args.self.now.weights.now in
    first_beyond meaning l c.position.result (IsFirst-from_position _ _ c.position.result (λ w. meaning.kind.reach 1 (meaning.value w) → ⊥) (λ w. meaning.kind.reach 1 (meaning.value w)) c.position.ensures.ran (YieldsList-from_slice l cc) (λ x q k. search rules) (λ x q k. search rules))
