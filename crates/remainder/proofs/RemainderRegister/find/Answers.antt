use Rattle.std.proofs.Common.{rules}
use Rattle.std.proofs.lemmas.List.{get_or_read_under}
use Rattle.remainder.proofs.Chains.{look_begin, look_inside, look_next, look_less, look_ends, look_finds}
use Rattle.remainder.proofs.RemainderRegister.find.Goals as goal

pub loop-link-init : goal.loop-link-init
loop-link-init c = look_begin _ _ _ _ c.args.self.now.chained c.args.class.now _ (search rules) (search (rules, get_or_read_under))

pub bounds-rows-at : goal.bounds-rows-at
bounds-rows-at c =
    let inside = look_inside _ _ _ _ c.args.self.now.chained c.args.class.now _ _ c.loop-link.invariant c.in-Some.is in
    search rules

pub index-link-requires-in-Some : goal.index-link-requires-in-Some
index-link-requires-in-Some c =
    let inside = look_inside _ _ _ _ c.args.self.now.chained c.args.class.now _ _ c.loop-link.invariant c.in-Some.is in
    search rules

pub returns-then-is_of : goal.returns-then-is_of
returns-then-is_of c =
    let inside = look_inside _ _ _ _ c.args.self.now.chained c.args.class.now _ _ c.loop-link.invariant c.in-Some.is in
    look_finds _ _ _ _ c.args.self.now.chained c.args.class.now _ inside (search (rules, get_or_read_under))

pub loop-link-smaller : goal.loop-link-smaller
loop-link-smaller c =
    let inside = look_inside _ _ _ _ c.args.self.now.chained c.args.class.now _ _ c.loop-link.invariant c.in-Some.is in
    look_less _ _ _ _ c.args.self.now.chained c.args.class.now _ _ _ c.loop-link.invariant c.in-Some.is (search (rules, get_or_read_under))

pub loop-link-preserved : goal.loop-link-preserved
loop-link-preserved c =
    let inside = look_inside _ _ _ _ c.args.self.now.chained c.args.class.now _ _ c.loop-link.invariant c.in-Some.is in
    look_next _ _ _ _ c.args.self.now.chained c.args.class.now _ _ _ c.loop-link.invariant c.in-Some.is (search (rules, get_or_read_under)) (search (rules, get_or_read_under))

pub returns : goal.returns
returns c = look_ends _ _ _ _ c.args.self.now.chained c.args.class.now _ c.loop-link.invariant c.in_default.is
