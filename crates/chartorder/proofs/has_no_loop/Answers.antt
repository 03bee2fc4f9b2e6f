use Rattle.std.proofs.Common.{◌≡◌, rules, arith}
use Rattle.std.proofs.lemmas.Iterator.{YieldsList-from_range, cases_from_all}
use Rattle.closure.specs.declared.kinds.Before.TheVariants.{Unlinked}
use Rattle.closure.specs.Befores.{before_meaning}
use Rattle.closure.specs.Closings.{entry}
use Rattle.chartorder.proofs.Tables.{no_loop_all}
use Rattle.chartorder.proofs.has_no_loop.Goals as goal

pub returns : goal.returns
returns c =
    let n = c.args.table.now.places in
    let u = entry before_meaning n c.args.table.now.weights.now in
    no_loop_all n u c.all.result (cases_from_all _ _ c.all.result (λ e. u e e ≡ Unlinked) (λ e. u e e ≡ Unlinked → ⊥) c.all.ensures.ran (YieldsList-from_range 0 n n (cc) (omega arith)) (λ x q k. search rules) (λ x q k. search rules))
