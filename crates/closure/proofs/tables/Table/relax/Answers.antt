use Rattle.std.proofs.Common.{ℕ, ◌+◌, ◌*◌, sym, ap, ◌∙◌, subst, arith}
use Rattle.closure.specs.Kinds.{most_links}
use Rattle.closure.specs.Closings.{entry}
use Rattle.closure.proofs.Entries.{place_below, row_end}
use Rattle.closure.proofs.Rounds.{Good, ended}
use Rattle.closure.proofs.Steps.{Mid, mid_to, row_bad, mid_first, mid_col, mid_row, fair_first, fair_more, row_done, round, step, near_all}
use Rattle.closure.proofs.tables.Table.relax.Goals as goal

pub improved-best-requires : goal.improved-best-requires
improved-best-requires g c =
    let meaning = g.W.Weight.meaning in
    let laws = g.met.W.Weight.laws in
    let n = c.args.self.now.places in
    let k = c.rounds.k in
    let i = c.row_after-i.result in
    let j = c.loop-j.j in
    let hk = c.rounds-test.true in
    let hi = c.row_after-i.ensures.0 in
    let hj = c.loop-j-test.true in
    let good = c.rounds.invariant.3 in
    let before = c.loop-s.invariant.3 in
    let same = c.loop-j.invariant.2 in
    let near = near_all laws n k _ _ c.args.self.now.sized.0 good hk c.requires.given in
    let head = c.at-head.ensures ∙ ap (λ m. entry meaning m c.loop-s.self.weights.now i k) c.loop-s.invariant.2 in
    let second = c.at-in-loop-j.ensures ∙ ap (λ m. entry meaning m c.loop-j.self.weights.now k j) same in (
      subst (meaning.kind.reach most_links) (sym (head ∙ mid_col laws good hk before i hi)) (near i k hi hk),
      subst (meaning.kind.reach most_links) (sym (second ∙ mid_row laws good hk (c.loop-j.invariant.3 _ _ good before) j hj)) (near k j hk hj),
    )

pub loop-j-preserved : goal.loop-j-preserved
loop-j-preserved g c =
    let meaning = g.W.Weight.meaning in
    let laws = g.met.W.Weight.laws in
    let n = c.args.self.now.places in
    let k = c.rounds.k in
    let s = c.loop-s.s in
    let i = c.row_after-i.result in
    let j = c.loop-j.j in
    let m = c.loop-j.self.places in
    let l = c.loop-j.self.weights.now in
    let hk = c.rounds-test.true in
    let hi = c.row_after-i.ensures.0 in
    let hj = c.loop-j-test.true in
    let turn = c.row_after-i.ensures.1 in
    let same = c.loop-j.invariant.2 in
    let more : (t d : ℕ → ℕ → meaning.Value) → Good meaning.kind n k t d → Mid meaning.kind n k (s * n) d (entry meaning n c.loop-s.self.weights.now) → Mid meaning.kind n k (s * n + (j + 1)) d (entry meaning n c.set.new.self.weights.now) = λ t d good before.
    let mid = c.loop-j.invariant.3 t d good before in
    let head = ap (λ m. entry meaning m c.loop-s.self.weights.now i k) c.loop-s.invariant.2 ∙ mid_col laws good hk before i hi in
    let second = ap (λ m. entry meaning m l k j) same ∙ mid_row laws good hk mid j hj in
    let old = ap (λ m. entry meaning m l i j) same ∙ mid.rest i j hi hj (omega (arith, ap (λ x. x * n) turn)) in
    subst (λ m. Mid meaning.kind n k (s * n + (j + 1)) d (entry meaning n m)) (sym c.set.ensures.weights)
    (step meaning s i j l hk hi hj turn mid (i * m + j) c.improved-best.result (ap (λ x. i * x + j) same) (omega (arith, c.loop-j.self.sized.1, place_below m i j (omega arith) (omega arith))) (cc)) in (
      c.loop-j.invariant.0,
      c.set.ensures.same_reference ∙ c.loop-j.invariant.1,
      c.set.ensures.places ∙ same,
      more,
      λ t d good before all b. row_bad laws n k s i (j + 1) t d _ good hk hi turn (omega arith) (more t d good before) b,
    )

pub loop-s-init : goal.loop-s-init
loop-s-init g c =
    let laws = g.met.W.Weight.laws in
    let n = c.args.self.now.places in
    let k = c.rounds.k in
    let good = c.rounds.invariant.3 in
    let hk = c.rounds-test.true in
    let mid = mid_first laws n k _ _ good hk in
    let fair = fair_first laws n k _ _ good hk in (
      c.rounds.invariant.0,
      c.rounds.invariant.1,
      c.rounds.invariant.2,
      mid,
      fair,
      λ t begun all. round laws n k 1 t _ _ begun hk (omega arith) mid fair,
      λ t begun all. ended laws n (k + 1) t _ (round laws n k 1 t _ _ begun hk (omega arith) mid fair) (omega arith),
    )

pub loop-s-preserved : goal.loop-s-preserved
loop-s-preserved g c =
    let meaning = g.W.Weight.meaning in
    let laws = g.met.W.Weight.laws in
    let n = c.args.self.now.places in
    let k = c.rounds.k in
    let s = c.loop-s.s in
    let i = c.row_after-i.result in
    let hk = c.rounds-test.true in
    let hi = c.row_after-i.ensures.0 in
    let turn = c.row_after-i.ensures.1 in
    let same = c.loop-j.invariant.2 in
    let mid = mid_to ((s + 1) * n) (row_end n s c.loop-j.j (omega arith)) (c.loop-j.invariant.3 _ _ c.rounds.invariant.3 c.loop-s.invariant.3) in
    let made = mid.done i i hi hi (row_done n k s i i hi turn) in
    let here = ap (λ m. entry meaning m c.loop-j.self.weights.now i i) same in
    let fair = fair_more laws n k s i (entry meaning n c.rounds.self.weights.now) hk hi turn c.loop-s.invariant.4 (cc) in (
      c.loop-j.invariant.0,
      c.loop-j.invariant.1,
      same,
      mid,
      fair,
      λ t begun all. round laws n k (s + 1) t _ _ begun hk (omega arith) mid fair,
      λ t begun all. ended laws n (k + 1) t _ (round laws n k (s + 1) t _ _ begun hk (omega arith) mid fair) (omega arith),
    )
