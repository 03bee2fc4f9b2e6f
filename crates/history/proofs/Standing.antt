-- Where an examination stands after a list of calls.
use Rattle.std.proofs.Common.{◌≡◌, ℕ, ◌+◌, List, [], Some, None, Ok, Err, Option, Result, sym, refl, ap, ◌∙◌, subst, arith, Bor}
use Rattle.bookformat.specs.declared.fault.Fault.{Fault}
use Rattle.chartbook.specs.Reads.{Taken}
use Rattle.search.specs.Systems.{System, Lawful}
use Rattle.search.specs.Rows as rows
use Rattle.search.specs.Walks as walk
use Rattle.search.specs.Walks.{Stage, IsOpen, Advances, Walked, none}
use Rattle.search.specs.Places.{Moves, stays, moves}
use Rattle.search.proofs.Unique.{walk_one, advance_walked, advance_used}
use Rattle.search.proofs.Told.{phase_law, moves_steps}
use Rattle.classes.specs.Ranged.{ranged}
use Rattle.classes.proofs.Lawfully.{ranged_law}
use Rattle.history.specs.declared.phase.State.{State}
use Rattle.history.specs.declared.phase.Phase.TheVariants.{Idle}
use Rattle.history.specs.declared.calls.Call.{Call}
use Rattle.history.specs.declared.calls.Call.TheVariants.{Verdict as AskVerdict, Begin, Advance, Leg, Dates}
use Rattle.history.specs.declared.calls.Answer.{Answer}
use Rattle.history.specs.declared.calls.Answer.TheVariants as answer
use Rattle.history.specs.Views.{View, Same, phase_of, stage_of}
use Rattle.history.specs.Meanings.{Begun, BeginMeans, Advanced, AdvanceMeans}
use Rattle.history.specs.Histories.{History, Answers, Reaches, fresh, next, takes, latest, taken, since, budget_of, budgets, steps_in, steps}
use Rattle.history.proofs.Seen.{phase_one, rows_one, same_view, kept}

-- The book is that of the bytes, and the walk through it has come here by so many steps; where it is still open, they are all that was spent.
pub record OnWalk (capacity : ℕ) (bytes : List ℕ) (made spent : ℕ) (v : View) : Type 0 where
  pub is_taken : Taken bytes v.book
  pub tried : List (ℕ × ℕ)
  pub walked : Walked (ranged v.book) capacity made (stage_of v tried)
  pub used : IsOpen (phase_of v.phase) → made ≡ spent

-- by the bytes last taken, the steps made since then and the budgets spent
abbrev pub Stands : ℕ → Option (List ℕ) → ℕ → ℕ → View → Type 0
Stands capacity None made spent v = v.phase ≡ Idle
Stands capacity (Some bytes) made spent v = OnWalk capacity bytes made spent v

module _ (capacity : ℕ) (bytes : List ℕ) (made spent : ℕ) (v : View) (o : OnWalk capacity bytes made spent v) where
  pub lawful_classes : Lawful (ranged v.book)
  lawful_classes = ranged_law v.book o.is_taken.good

  pub not_idle : v.phase ≡ Idle → ⊥
  not_idle e = (phase_law (ranged v.book) lawful_classes capacity made (stage_of v o.tried) o.walked).begun (ap phase_of e)

  -- so many steps through the book of the bytes come to one view
  pub one_view : (m : ℕ) (w : View) → OnWalk capacity bytes made m w → v ≡ w
  one_view m w q =
      let e : w.book ≡ v.book = o.is_taken.only w.book q.is_taken.good q.is_taken.bytes_are in
      let u : View = record { book = v.book; phase = w.phase; rows = w.rows } in
      let f : w ≡ u = same_view w u e refl refl in
      let p : OnWalk capacity bytes made m u = subst (OnWalk capacity bytes made m) f q in
      let g : stage_of v o.tried ≡ stage_of u p.tried = walk_one (ranged v.book) lawful_classes capacity made (stage_of v o.tried) (stage_of u p.tried) o.walked p.walked in
      same_view v w (sym e)
      (phase_one v.phase w.phase (ap (λ (x : Stage (ranged v.book)). x.phase) g))
      (rows_one v.book v.rows w.rows (ap (λ (x : Stage (ranged v.book)). x.rows) g))

-- steps that end open began open
moves_open : (y : System) (capacity : ℕ) {from : List (rows.Row y)} {start : walk.Phase} {n : ℕ} {after : List (rows.Row y)} {f : walk.Phase} → Moves y capacity from start n after f → IsOpen f → IsOpen start
moves_open y capacity (stays e r q) (p, l, o) = (p, l, sym q ∙ o)
moves_open y capacity (moves p l o s e t c q) i = moves_open y capacity s (p, l, e)

-- where a call changes nothing
stand_same : (capacity : ℕ) (t : Option (List ℕ)) (n n' m m' : ℕ) (v w : View) → Same v w → n ≡ n' → m ≡ m' → Stands capacity t n m v → Stands capacity t n' m' w
stand_same capacity t n n' m m' v w s en em st =
    subst (Stands capacity t n' m') (sym (kept v w s))
    (subst (λ (x : ℕ). Stands capacity t n' x v) em (subst (λ (x : ℕ). Stands capacity t x m v) en st))

-- after the call and its answer
abbrev StandsAfter : ℕ → Option (List ℕ) → ℕ → ℕ → Call → Answer → View → Type 0
StandsAfter capacity t n m c a w = Stands capacity (latest (takes c a) t) (since (takes c a) (n + steps_in a)) (since (takes c a) (m + budget_of c)) w

-- a walk begins
pub begun_walk : (capacity : ℕ) (bytes : List ℕ) (s : State) (w : View) → Begun capacity bytes s w → OnWalk capacity bytes 0 0 w
begun_walk capacity bytes s w b = record {
  is_taken = b.taken;
  tried = [];
  walked = record { start = stage_of w []; room = b.room; begins = b.begins; made = none refl refl };
  used = λ o. refl;
}

stand_begun : (capacity : ℕ) (t : Option (List ℕ)) (n m : ℕ) (bytes : Bor (List ℕ)) (v w : View) (r : Result State Fault) → BeginMeans capacity bytes.now v r w → Stands capacity t n m v → StandsAfter capacity t n m (Begin bytes) (answer.Begun r) w
stand_begun capacity t n m bytes v w (Ok s) b st = begun_walk capacity bytes.now s w b
stand_begun capacity t n m bytes v w (Err f) b st = stand_same capacity t n (n + 0) m (m + 0) v w b.1 (omega arith) (omega arith) st

-- and goes on
abbrev pub moved : View → View → View
moved v w = record { book = v.book; phase = w.phase; rows = w.rows }

pub advances : (capacity budget : ℕ) (bytes : List ℕ) (n m k s : ℕ) (v w : View) → Advanced capacity budget v k s w → (o : OnWalk capacity bytes n m v) → (tried : List (ℕ × ℕ)) × Advances (ranged v.book) capacity budget (stage_of v o.tried) k (stage_of (moved v w) tried)
advances capacity budget bytes n m k s v w a o =
    let i = moves_steps (ranged v.book) (lawful_classes capacity bytes n m v o) capacity n (stage_of v o.tried) o.walked a.moves in
    (i.0, record { made = i.1; within = a.within; stopped = a.stopped })

walk_on : (capacity budget : ℕ) (bytes : List ℕ) (n m k s : ℕ) (v w : View) → Advanced capacity budget v k s w → OnWalk capacity bytes n m v → OnWalk capacity bytes (n + k) (m + budget) w
walk_on capacity budget bytes n m k s v w a o =
    let (tried, go) = advances capacity budget bytes n m k s v w a o in
    let on : OnWalk capacity bytes (n + k) (m + budget) (moved v w) = record {
      is_taken = o.is_taken;
      tried = tried;
      walked = advance_walked (ranged v.book) capacity n budget k (stage_of v o.tried) (stage_of (moved v w) tried) o.walked go;
      used = λ p. omega (arith, o.used (moves_open (ranged v.book) capacity a.moves p), advance_used (ranged v.book) capacity budget k (stage_of v o.tried) (stage_of (moved v w) tried) go p);
    } in
    subst (OnWalk capacity bytes (n + k) (m + budget)) (same_view (moved v w) w (sym a.book) refl refl) on

stand_advanced : (capacity budget : ℕ) (t : Option (List ℕ)) (n m : ℕ) (v w : View) (r : Result (ℕ × ℕ) Fault) → AdvanceMeans capacity budget v r w → Stands capacity t n m v → StandsAfter capacity t n m (Advance budget) (answer.Advanced r) w
stand_advanced capacity budget None n m v w (Ok a) b st = absurd (b.begun st)
stand_advanced capacity budget (Some bytes) n m v w (Ok a) b st = walk_on capacity budget bytes n m a.0 a.1 v w b st
stand_advanced capacity budget None n m v w (Err f) b st = b.2.phase ∙ st
stand_advanced capacity budget (Some bytes) n m v w (Err f) b st = absurd (not_idle capacity bytes n m v st b.1)

stand : (capacity : ℕ) (t : Option (List ℕ)) (n m : ℕ) (v w : View) (c : Call) (a : Answer) (lent left : List ℕ) → Answers capacity v c a lent left w → Stands capacity t n m v → StandsAfter capacity t n m c a w
stand capacity t n m v w AskVerdict a lent left (told, e, b, s, l) st =
    subst (λ (x : Answer). StandsAfter capacity t n m AskVerdict x w) (sym e) (stand_same capacity t n (n + 0) m (m + 0) v w s (omega arith) (omega arith) st)
stand capacity t n m v w (Begin bytes) a lent left (r, e, b, l) st =
    subst (λ (x : Answer). StandsAfter capacity t n m (Begin bytes) x w) (sym e) (stand_begun capacity t n m bytes v w r b st)
stand capacity t n m v w (Advance budget) a lent left (r, e, b, l) st =
    subst (λ (x : Answer). StandsAfter capacity t n m (Advance budget) x w) (sym e) (stand_advanced capacity budget t n m v w r b st)
stand capacity t n m v w (Leg position) a lent left (r, e, b, s, l) st =
    subst (λ (x : Answer). StandsAfter capacity t n m (Leg position) x w) (sym e) (stand_same capacity t n (n + 0) m (m + 0) v w s (omega arith) (omega arith) st)
stand capacity t n m v w (Dates k) a lent left (r, e, b, s) st =
    subst (λ (x : Answer). StandsAfter capacity t n m (Dates k) x w) (sym e) (stand_same capacity t n (n + 0) m (m + 0) v w s (omega arith) (omega arith) st)

pub standing : (capacity : ℕ) {h : History} {v : View} → Reaches capacity h v → Stands capacity (taken h) (steps h) (budgets h) v
standing capacity {v = v} (fresh e i) = subst (λ (x : History). Stands capacity (taken x) (steps x) (budgets x) v) (sym e) i
standing capacity {v = w} (next d g v e r s) =
    subst (λ (x : History). Stands capacity (taken x) (steps x) (budgets x) w) (sym e)
    (stand capacity (taken g) (steps g) (budgets g) v w d.call d.answer d.lent d.left s.answers (standing capacity r))
