use Rattle.std.proofs.Common.{◌≡◌, Decides, sym, ◌∙◌, subst, rules}
use Rattle.bookformat.specs.Reading.{is_directly_before}
use Rattle.closure.specs.Befores.{before_meaning}
use Rattle.closure.specs.Closings.{entry, Closes, Filled}
use Rattle.chartorder.specs.Orders.{link_of, NoLoop}
use Rattle.chartorder.proofs.Tables.{closed_decides}
use Rattle.chartorder.proofs.close_in.Goals as goal

pub returns-then-is_ok : goal.returns-then-is_ok
returns-then-is_ok c =
    let es = c.args.events.now in
    let l = c.fill.new.self.weights.now in
    let m = c.close.new.self.weights.now in
    let r = c.has_no_loop.result in
    let size = c.fill.ensures.places ∙ c.within-table.ensures.places in
    closed_decides es l m c.close.result r
    (subst (λ n. Filled (λ i j w. w ≡ link_of (is_directly_before es i j)) n l) size (λ k d h. let met = c.fill.ensures.filled k d h in search rules))
    (subst (λ n. Closes before_meaning n l m c.close.result) size c.close.ensures.closes)
    (sym c.is_ok.ensures.value ∙ c.if-is_ok.true)
    (subst (λ n. Decides r (NoLoop n (entry before_meaning n m))) (c.close.ensures.places ∙ size) c.has_no_loop.ensures)
