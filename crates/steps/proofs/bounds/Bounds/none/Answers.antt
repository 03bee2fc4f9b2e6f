use Rattle.std.proofs.Common.{rules}
use Rattle.steps.proofs.Filled.{blank_usable, blank_kept}
use Rattle.steps.proofs.bounds.Bounds.none.Goals as goal

pub invariant_of-result : goal.invariant_of-result
invariant_of-result c =
    let t = c.fill.new.self in
    record { usable = ∣ blank_usable t.places t.weights.now t.sized (λ k d h. let met = c.fill.ensures.filled k d h in search rules) ∣₁ }

pub returns-clause-blank : goal.returns-clause-blank
returns-clause-blank c =
    let t = c.fill.new.self in
    record { kept = blank_kept t.places t.weights.now t.sized (λ k d h. let met = c.fill.ensures.filled k d h in search rules) }
