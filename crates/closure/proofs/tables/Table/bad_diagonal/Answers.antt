use Rattle.std.proofs.Common.{◌≡◌, true, false, rules}
use Rattle.std.proofs.lemmas.Iterator.{first_from_Range}
use Rattle.closure.specs.Closings.{entry}
use Rattle.closure.proofs.Searches.{bad_diagonal}
use Rattle.closure.proofs.tables.Table.bad_diagonal.Goals as goal

pub returns : goal.returns
returns g c =
    let kind = g.W.Weight.meaning.kind in
    let n = c.args.self.now.places in
    let t = entry g.W.Weight.meaning n c.args.self.now.weights.now in
    bad_diagonal g.met.W.Weight.laws n t c.find.result (first_from_Range _ _ _ c.find.result (λ p. kind.better (t p p) kind.unit ≡ true) (λ p. kind.better (t p p) kind.unit ≡ false) c.find.ensures.ran (λ x q k. search rules) (λ x q k. search rules))
