use Rattle.std.proofs.Common.{◌≡◌, ℕ, ◌+◌, ◌*◌, ◌≤◌, true, None}
use Rattle.closure.specs.Walks.{Bad}
use Rattle.closure.specs.Closings.{entry}
use Rattle.closure.proofs.Rounds.{Good, Ended}
use Rattle.closure.proofs.Steps.{Mid, FairBefore}
use Rattle.closure.proofs.tables.Table.relax.Given as goal

-- the entries of this row before the column j are relaxed too, whichever table the round began with;
-- the whole row shows a bad cycle where its entry on the diagonal is better than the unit
abbrev pub invariant-loop-j : goal.invariant-loop-j
invariant-loop-j g l =
    let meaning = g.W.Weight.meaning in
    let n = l.places in
    (l.bad ≡ None)
    × (l.self.weights.ghost_name ≡ l.fn.self.weights.ghost_name)
    × (l.self.places ≡ n)
    × ((t d : ℕ → ℕ → meaning.Value)
    → Good meaning.kind n l.k t d
    → Mid meaning.kind n l.k (l.s * n) d (entry meaning n l.initial.self.weights.now)
    → Mid meaning.kind n l.k (l.s * n + l.j) d (entry meaning n l.self.weights.now))
    × ((t d : ℕ → ℕ → meaning.Value)
    → Good meaning.kind n l.k t d
    → Mid meaning.kind n l.k (l.s * n) d (entry meaning n l.initial.self.weights.now)
    → n ≤ l.j
    → meaning.kind.better (entry meaning n l.self.weights.now l.i l.i) meaning.kind.unit ≡ true
    → Bad meaning.kind n t l.i)

-- the rows less than s rows after the row k are relaxed; all of them make the round
abbrev pub invariant-loop-s : goal.invariant-loop-s
invariant-loop-s g l =
    let meaning = g.W.Weight.meaning in
    let n = l.places in
    (l.bad ≡ None)
    × (l.self.weights.ghost_name ≡ l.fn.self.weights.ghost_name)
    × (l.self.places ≡ n)
    × Mid meaning.kind n l.k (l.s * n) (entry meaning n l.initial.self.weights.now) (entry meaning n l.self.weights.now)
    × FairBefore meaning.kind n l.k l.s (entry meaning n l.initial.self.weights.now)
    × ((t : ℕ → ℕ → meaning.Value)
    → Good meaning.kind n l.k t (entry meaning n l.initial.self.weights.now)
    → n ≤ l.s
    → Good meaning.kind n (l.k + 1) t (entry meaning n l.self.weights.now))
    × ((t : ℕ → ℕ → meaning.Value)
    → Good meaning.kind n l.k t (entry meaning n l.initial.self.weights.now)
    → n ≤ l.s
    → Ended meaning.kind n (l.k + 1) t (entry meaning n l.self.weights.now))

-- walks go by the places before k; by all of them, the table is closed
abbrev pub invariant-rounds : goal.invariant-rounds
invariant-rounds g l =
    let meaning = g.W.Weight.meaning in
    let n = l.places in
    (l.bad ≡ None)
    × (l.self.weights.ghost_name ≡ l.fn.self.weights.ghost_name)
    × (l.self.places ≡ n)
    × Good meaning.kind n l.k (entry meaning n l.fn.self.weights.now) (entry meaning n l.self.weights.now)
    × Ended meaning.kind n l.k (entry meaning n l.fn.self.weights.now) (entry meaning n l.self.weights.now)
