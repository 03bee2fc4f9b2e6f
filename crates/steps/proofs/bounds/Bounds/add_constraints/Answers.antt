use Rattle.std.proofs.Common.{◌+◌, get_or, subst₂, arith}
use Rattle.bookformat.specs.declared.value.Constraint.{Constraint}
use Rattle.bookformat.specs.Rules.{no_constraint}
use Rattle.paths.specs.Datings.{Within}
use Rattle.steps.specs.Fillings.{Adds}
use Rattle.steps.proofs.Filled.{adds_more, adds_all}
use Rattle.steps.proofs.bounds.Bounds.add_constraints.Goals as goal

pub loop-c-preserved : goal.loop-c-preserved
loop-c-preserved c =
    let this : Constraint = get_or c.args.constraints.now c.loop-c.c-index no_constraint in
    adds_more c.loop-c.invariant (subst₂ (λ x y. Adds c.loop-c.self c.add_interval.new.self (λ z. Within this.interval (z (c.args.first + x)) (z (c.args.first + y)))) c.from.ensures c.from-in-loop-c.ensures c.add_interval.ensures)

pub returns : goal.returns
returns c = adds_all (omega arith) c.loop-c.invariant
