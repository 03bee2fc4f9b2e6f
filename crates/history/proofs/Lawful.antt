-- Every list of calls keeps the law.
use Rattle.std.proofs.Common.{◌≡◌, ℕ, List, [], ◌∷◌, Some, None, Ok, Err, Option, Result, sym, refl, ap, ◌∙◌, subst, arith}
use Rattle.bookformat.specs.declared.fault.Fault.{Fault}
use Rattle.search.specs.Walks.{IsOpen}
use Rattle.history.specs.declared.phase.State.{State}
use Rattle.history.specs.declared.phase.Phase.{Phase}
use Rattle.history.specs.declared.phase.Phase.TheVariants.{Idle, Open, Runs, Empty, Spent}
use Rattle.history.specs.declared.calls.Verdict.{Verdict}
use Rattle.history.specs.declared.calls.Call.{Call}
use Rattle.history.specs.declared.calls.Call.TheVariants.{Verdict as AskVerdict, Begin, Advance, Leg, Dates}
use Rattle.history.specs.declared.calls.Answer.{Answer}
use Rattle.history.specs.declared.calls.Answer.TheVariants as answer
use Rattle.history.specs.States.{code}
use Rattle.history.specs.Views.{View, state_of, phase_of, stage_of}
use Rattle.history.specs.Meanings.{BeginMeans, AdvanceMeans, VerdictMeans}
use Rattle.history.specs.Histories.{Did, History, Answers, Does, Reaches, fresh, next, Reads, TellsCharts, taken, budgets, steps}
use Rattle.history.specs.Laws.{ShowsPath, Holds, BookLaw, Law, HistoryLaw}
use Rattle.history.proofs.Seen.{code_phase, kept}
use Rattle.history.proofs.Standing.{OnWalk, Stands, one_view, standing}
use Rattle.history.proofs.Showing.{Showing, told_empty, told_open, told_spent, told_runs}

-- what the latest call did
abbrev pub Led : ℕ → History → View → Type 0
Led capacity [] w = w.phase ≡ Idle
Led capacity (d ∷ h) w = (v : View) × Reaches capacity h v × Does capacity v d w

pub led : (capacity : ℕ) {h : History} {w : View} → Reaches capacity h w → Led capacity h w
led capacity {w = w} (fresh e i) = subst (λ (x : History). Led capacity x w) (sym e) i
led capacity {w = w} (next d g v e r s) = subst (λ (x : History). Led capacity x w) (sym e) (v, r, s)

-- the state that an answer reads is that of the view after it
read_begun : (capacity : ℕ) (bytes : List ℕ) (v w : View) (r : Result State Fault) (n : ℕ) → BeginMeans capacity bytes v r w → Reads (answer.Begun r) n → n ≡ code (state_of w.phase)
read_begun capacity bytes v w (Ok s) n m q = sym q ∙ ap code m.state
read_begun capacity bytes v w (Err f) n m q = absurd q

read_advanced : (capacity budget : ℕ) (v w : View) (r : Result (ℕ × ℕ) Fault) (n : ℕ) → AdvanceMeans capacity budget v r w → Reads (answer.Advanced r) n → n ≡ code (state_of w.phase)
read_advanced capacity budget v w (Ok a) n m q = sym q ∙ m.state_is
read_advanced capacity budget v w (Err f) n m q = absurd q

module _ (capacity : ℕ) (v w : View) (a : Answer) (lent left : List ℕ) where
  told_view : Answers capacity v AskVerdict a lent left w → (told : Verdict) × (a ≡ answer.Told told) × VerdictMeans w told
  told_view (told, e, m, s, l) = (told, e, subst (λ (x : View). VerdictMeans x told) (sym (kept v w s)) m)

  read_state : (c : Call) → Answers capacity v c a lent left w → (n : ℕ) → Reads a n → n ≡ code (state_of w.phase)
  read_state AskVerdict d n q =
      let (told, e, m) = told_view d in
      let i : code told.state ≡ n = subst (λ (x : Answer). Reads x n) e q in
      sym i ∙ ap code m.state
  read_state (Begin bytes) d n q = read_begun capacity bytes.now v w d.0 n d.2 (subst (λ (x : Answer). Reads x n) d.1 q)
  read_state (Advance budget) d n q = read_advanced capacity budget v w d.0 n d.2 (subst (λ (x : Answer). Reads x n) d.1 q)
  read_state (Leg position) d n q = let i : ⊥ = subst (λ (x : Answer). Reads x n) d.1 q in absurd i
  read_state (Dates k) d n q = let i : ⊥ = subst (λ (x : Answer). Reads x n) d.1 q in absurd i

  -- and so are the charts that it tells
  read_charts : (c : Call) → Answers capacity v c a lent left w → (n : ℕ) → TellsCharts a n → (told : Verdict) × VerdictMeans w told × (told.charts ≡ n)
  read_charts AskVerdict d n q =
      let (told, e, m) = told_view d in
      (told, m, subst (λ (x : Answer). TellsCharts x n) e q)
  read_charts (Begin bytes) d n q = let i : ⊥ = subst (λ (x : Answer). TellsCharts x n) d.1 q in absurd i
  read_charts (Advance budget) d n q = let i : ⊥ = subst (λ (x : Answer). TellsCharts x n) d.1 q in absurd i
  read_charts (Leg position) d n q = let i : ⊥ = subst (λ (x : Answer). TellsCharts x n) d.1 q in absurd i
  read_charts (Dates k) d n q = let i : ⊥ = subst (λ (x : Answer). TellsCharts x n) d.1 q in absurd i

-- the state by its number
is_open : (f : Phase) → code (state_of f) ≡ 1 → IsOpen (phase_of f)
is_open Idle e = absurd (omega arith)
is_open (Open p l) e = (p, l, refl)
is_open (Runs k) e = absurd (omega arith)
is_open Empty e = absurd (omega arith)
is_open Spent e = absurd (omega arith)

is_runs : (f : Phase) → code (state_of f) ≡ 2 → (k : ℕ) × (f ≡ Runs k)
is_runs Idle e = absurd (omega arith)
is_runs (Open p l) e = absurd (omega arith)
is_runs (Runs k) e = (k, refl)
is_runs Empty e = absurd (omega arith)
is_runs Spent e = absurd (omega arith)

is_empty : (f : Phase) → code (state_of f) ≡ 3 → f ≡ Empty
is_empty Idle e = absurd (omega arith)
is_empty (Open p l) e = absurd (omega arith)
is_empty (Runs k) e = absurd (omega arith)
is_empty Empty e = refl
is_empty Spent e = absurd (omega arith)

is_spent : (f : Phase) → code (state_of f) ≡ 4 → f ≡ Spent
is_spent Idle e = absurd (omega arith)
is_spent (Open p l) e = absurd (omega arith)
is_spent (Runs k) e = absurd (omega arith)
is_spent Empty e = absurd (omega arith)
is_spent Spent e = refl

module _ (capacity : ℕ) (d : Did) (h : History) (v w : View) (s : Does capacity v d w) (at : Reaches capacity (d ∷ h) w) where
  read : (n : ℕ) → Reads d.answer n → code (state_of w.phase) ≡ n
  read n q = sym (read_state capacity v w d.answer d.lent d.left d.call s.answers n q)

  stands_now : (t : Option (List ℕ)) → taken (d ∷ h) ≡ t → (u : View) → Reaches capacity (d ∷ h) u → Stands capacity t (steps (d ∷ h)) (budgets (d ∷ h)) u
  stands_now t e u r = subst (λ (x : Option (List ℕ)). Stands capacity x (steps (d ∷ h)) (budgets (d ∷ h)) u) e (standing capacity r)

  shows : (path : List ℕ) → Showing w path → ShowsPath w.book d.answer w path
  shows path p = record {
    runs = p.runs;
    shortest = p.shortest;
    charts = λ n q.
        let (told, m, e) = read_charts capacity v w d.answer d.lent d.left d.call s.answers n q in
        sym e ∙ p.charts told m;
    legs = p.legs;
    dates = p.dates;
  }

  module _ (bytes : List ℕ) (e : taken (d ∷ h) ≡ Some bytes) where
    on_walk : (u : View) → Reaches capacity (d ∷ h) u → OnWalk capacity bytes (steps (d ∷ h)) (budgets (d ∷ h)) u
    on_walk u r = stands_now (Some bytes) e u r

    one_now : (u : View) → Reaches capacity (d ∷ h) u → w ≡ u
    one_now u r = one_view capacity bytes (steps (d ∷ h)) (budgets (d ∷ h)) w (on_walk w at) (budgets (d ∷ h)) u (on_walk u r)

    book_law : BookLaw capacity d h w.book
    book_law =
        let o = on_walk w at in
        record {
          walked = (
            stage_of w o.tried,
            o.walked,
            λ u r. subst (λ (x : View). Holds w.book (stage_of w o.tried) x) (one_now u r) (record { book = refl; rows = refl; phase = refl }),
            λ n q. sym (read n q) ∙ code_phase w.phase,
          );
          empty = λ q. told_empty capacity bytes (steps (d ∷ h)) (budgets (d ∷ h)) w o (is_empty w.phase (read 3 q));
          runs = λ q u r.
              let (k, f) = is_runs w.phase (read 2 q) in
              let (path, p) = told_runs capacity bytes (steps (d ∷ h)) (budgets (d ∷ h)) w o k f in
              (path, subst (λ (x : View). ShowsPath w.book d.answer x path) (one_now u r) (shows path p));
          spent = λ q. told_spent capacity bytes (steps (d ∷ h)) (budgets (d ∷ h)) w o (is_spent w.phase (read 4 q));
          unfinished = λ q. told_open capacity bytes (steps (d ∷ h)) (budgets (d ∷ h)) w o (is_open w.phase (read 1 q));
        }

  law : Law capacity d h
  law = record {
    idle = λ e n q. sym (read n q) ∙ ap (λ (x : Phase). code (state_of x)) (stands_now None e w at);
    on_book = λ bytes e b t.
        let same : w.book ≡ b = t.only w.book (on_walk bytes e w at).is_taken.good (on_walk bytes e w at).is_taken.bytes_are in
        subst (BookLaw capacity d h) same (book_law bytes e);
  }

pub history_law : HistoryLaw
history_law capacity [] w r = tt
history_law capacity (d ∷ h) w r =
    let (v, before, s) = led capacity r in
    (law capacity d h v w s r, history_law capacity h v before)
