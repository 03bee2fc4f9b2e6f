use Rattle.std.proofs.Common.{sym, subst, arith}
use Rattle.steps.specs.Tables.{table_of}
use Rattle.steps.specs.Readings.{Readable, ProfileRead, ClosedRead}
use Rattle.steps.proofs.Closed.{closed, unclosed}
use Rattle.steps.proofs.profiles.closed_profile.Goals as goal

pub read_profile-requires : goal.read_profile-requires
read_profile-requires c =
    let n = c.args.table.now.places in
    let m = c.close.new.self.weights.now in
    let walks = closed n c.args.table.now.weights.now m c.close.result c.close.ensures.closes (sym c.in_ok-ok.ensures.variant) in
    record { inside = omega (arith, c.close.ensures.places); readable = subst (λ k. Readable (table_of k m) c.args.first c.args.events.now) (sym c.close.ensures.places) (c.requires.readable (table_of n m) walks) }

pub returns-in_err-ok : goal.returns-in_err-ok
returns-in_err-ok c =
    let n = c.args.table.now.places in
    let l = c.args.table.now.weights.now in
    subst (ClosedRead n (table_of n l) c.args.first c.args.events.now) (sym c.from_residual.ensures) (unclosed n l c.close.new.self.weights.now c.close.result c.requires.usable c.close.ensures.closes (sym c.in_err-ok.ensures.variant))

pub returns : goal.returns
returns c =
    let n = c.args.table.now.places in
    let m = c.close.new.self.weights.now in
    let walks = closed n c.args.table.now.weights.now m c.close.result c.close.ensures.closes (sym c.in_ok-ok.ensures.variant) in
    (table_of n m, walks, subst (λ k. ProfileRead (table_of k m) c.args.first c.args.events.now c.read_profile.result) c.close.ensures.places c.read_profile.ensures)
