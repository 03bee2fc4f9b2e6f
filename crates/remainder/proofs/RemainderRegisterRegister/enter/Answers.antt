use Rattle.std.proofs.Common.{◌≡◌, get_or, None, vec_items, refl, rules}
use Rattle.std.proofs.lemmas.List.{get_or_read_under}
use Rattle.remainder.proofs.Chains.{chained_more}
use Rattle.remainder.proofs.RemainderRegisterRegister.enter.Goals as goal

pub invariant_of-self-clause-chained : goal.invariant_of-self-clause-chained
invariant_of-self-clause-chained c =
    let before : c.index-before.result.now ≡ get_or (vec_items c.args.self.now.heads) c.chain-chain.result None = search (rules, get_or_read_under) in
    chained_more _ _ _ _ _ _ _ _ _ _ _ c.args.self.now.chained (search rules) (search rules) (search rules) c.in_default.ensures c.chain-chain.ensures
    (search rules) before c.append-place.ensures.rows refl c.push_reserved.ensures.items
