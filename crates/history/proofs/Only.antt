-- The same calls with the same space have the same answers.
use Rattle.std.proofs.Common.{◌≡◌, ℕ, List, [], ◌∷◌, ◌++◌, length, drop, Some, None, Ok, Err, Option, Result, sym, refl, ap, ◌∙◌, subst, arith, length-append}
use lib.Seq.{drop-append_seam}
use Rattle.std.proofs.lemmas.List.{same_from_push, append_cancel_right, length_push}
use Rattle.bookformat.specs.declared.fault.Fault.{Fault}
use Rattle.bookformat.specs.declared.fault.Fault.TheVariants as fault
use Rattle.bookformat.specs.Values.{BookValue}
use Rattle.paths.specs.Listing.{events_of}
use Rattle.search.specs.Walks.{Stage}
use Rattle.search.proofs.Unique as unique
use Rattle.classes.specs.Ranged.{ranged}
use Rattle.history.specs.declared.phase.State.{State}
use Rattle.history.specs.declared.phase.Phase.{Phase}
use Rattle.history.specs.declared.phase.Phase.TheVariants.{Idle, Open, Runs, Empty, Spent}
use Rattle.history.specs.declared.calls.Verdict.{Verdict}
use Rattle.history.specs.declared.calls.Leg as leg
use Rattle.history.specs.declared.calls.Call.{Call}
use Rattle.history.specs.declared.calls.Call.TheVariants.{Verdict as AskVerdict, Begin, Advance, Leg, Dates}
use Rattle.history.specs.declared.calls.Answer.{Answer}
use Rattle.history.specs.declared.calls.Answer.TheVariants as answer
use Rattle.history.specs.States.{code}
use Rattle.history.specs.Views.{View, state_of, stage_of}
use Rattle.history.specs.Meanings.{Begun, BeginFault, no_room, bad_book, BeginMeans, AdvanceMeans, ChartsIn, VerdictMeans, LegIn, LegMeans, DatesShown, DatesIn, RestKept, DatesMeans}
use Rattle.history.specs.Histories.{Did, History, space, Answers, Does, Reaches, calls_of, lent_of, taken, budgets, steps}
use Rattle.history.specs.Laws.{LegOn, OnlyLaw}
use Rattle.paths.proofs.Listed.{same_dates}
use Rattle.history.proofs.Seen.{phase_one}
use Rattle.history.proofs.Standing.{OnWalk, Stands, lawful_classes, one_view, begun_walk, moved, advances, standing}
use Rattle.history.proofs.Showing.{Showing, told_runs}
use Rattle.history.proofs.Lawful.{led}

-- begin

not_both : (capacity : ℕ) (bytes : List ℕ) (s : State) (f : Fault) (w : View) → Begun capacity bytes s w → BeginFault capacity bytes f → ⊥
not_both capacity bytes s f w b (no_room e q) = omega (arith, b.room)
not_both capacity bytes s f w b (bad_book h r) = r.not_good w.book b.taken.good b.taken.bytes_are

one_fault : (capacity : ℕ) (bytes : List ℕ) (f g : Fault) → BeginFault capacity bytes f → BeginFault capacity bytes g → f ≡ g
one_fault capacity bytes f g (no_room e q) (no_room e' q') = q ∙ sym q'
one_fault capacity bytes f g (no_room e q) (bad_book h r) = absurd (omega arith)
one_fault capacity bytes f g (bad_book h r) (no_room e q) = absurd (omega arith)
one_fault capacity bytes f g (bad_book h r) (bad_book h' r') = let e : Some f ≡ Some g = sym r.first ∙ r'.first in cc

begin_one : (capacity : ℕ) (bytes : List ℕ) (v v' w w' : View) (r r' : Result State Fault) → BeginMeans capacity bytes v r w → BeginMeans capacity bytes v' r' w' → r ≡ r'
begin_one capacity bytes v v' w w' (Ok s) (Ok s') b b' =
    let e = one_view capacity bytes 0 0 w (begun_walk capacity bytes s w b) 0 w' (begun_walk capacity bytes s' w' b') in
    ap Ok (b.state ∙ ap (λ (x : View). state_of x.phase) e ∙ sym b'.state)
begin_one capacity bytes v v' w w' (Ok s) (Err f) b b' = absurd (not_both capacity bytes s f w b b'.0)
begin_one capacity bytes v v' w w' (Err f) (Ok s) b b' = absurd (not_both capacity bytes s f w' b' b.0)
begin_one capacity bytes v v' w w' (Err f) (Err g) b b' = ap Err (one_fault capacity bytes f g b.0 b'.0)

-- advance

advance_walk : (capacity budget : ℕ) (bytes : List ℕ) (n m : ℕ) (v w w' : View) → OnWalk capacity bytes n m v → (r r' : Result (ℕ × ℕ) Fault) → AdvanceMeans capacity budget v r w → AdvanceMeans capacity budget v r' w' → r ≡ r'
advance_walk capacity budget bytes n m v w w' o (Ok a) (Ok a') b b' =
    let (tried, s) = advances capacity budget bytes n m a.0 a.1 v w b o in
    let (tried', s') = advances capacity budget bytes n m a'.0 a'.1 v w' b' o in
    let e = unique.advance_one (ranged v.book) (lawful_classes capacity bytes n m v o) capacity budget a.0 a'.0 (stage_of v o.tried) (stage_of (moved v w) tried) (stage_of (moved v w') tried') s s' in
    let f : w.phase ≡ w'.phase = phase_one w.phase w'.phase (ap (λ (x : Stage (ranged v.book)). x.phase) e.1) in
    let g : a.1 ≡ a'.1 = b.state_is ∙ ap (λ (x : Phase). code (state_of x)) f ∙ sym b'.state_is in
    λ i. Ok (e.0 i, g i)
advance_walk capacity budget bytes n m v w w' o (Ok a) (Err f) b b' = absurd (b.begun b'.1)
advance_walk capacity budget bytes n m v w w' o (Err f) (Ok a) b b' = absurd (b'.begun b.1)
advance_walk capacity budget bytes n m v w w' o (Err f) (Err g) b b' = ap Err (b.0 ∙ sym b'.0)

advance_idle : (capacity budget : ℕ) (v v' w w' : View) → v.phase ≡ Idle → v'.phase ≡ Idle → (r r' : Result (ℕ × ℕ) Fault) → AdvanceMeans capacity budget v r w → AdvanceMeans capacity budget v' r' w' → r ≡ r'
advance_idle capacity budget v v' w w' e e' (Ok a) r' b b' = absurd (b.begun e)
advance_idle capacity budget v v' w w' e e' (Err f) (Ok a) b b' = absurd (b'.begun e')
advance_idle capacity budget v v' w w' e e' (Err f) (Err g) b b' = ap Err (b.0 ∙ sym b'.0)

advance_one : (capacity budget : ℕ) (t : Option (List ℕ)) (n m : ℕ) (v v' w w' : View) → Stands capacity t n m v → Stands capacity t n m v' → (r r' : Result (ℕ × ℕ) Fault) → AdvanceMeans capacity budget v r w → AdvanceMeans capacity budget v' r' w' → r ≡ r'
advance_one capacity budget None n m v v' w w' s s' r r' b b' = advance_idle capacity budget v v' w w' s s' r r' b b'
advance_one capacity budget (Some bytes) n m v v' w w' s s' r r' b b' =
    let e = one_view capacity bytes n m v s m v' s' in
    advance_walk capacity budget bytes n m v w w' s r r' b (subst (λ (x : View). AdvanceMeans capacity budget x r' w') (sym e) b')

-- Two views in which the other calls show the same
record Alike (v w : View) : Type 0 where
  pub phase : v.phase ≡ w.phase
  pub runs : (k : ℕ) → v.phase ≡ Runs k → (path : List ℕ) × Showing v path × Showing w path × (w.book ≡ v.book)

alike : (capacity : ℕ) (t : Option (List ℕ)) (n m : ℕ) (v w : View) → Stands capacity t n m v → Stands capacity t n m w → Alike v w
alike capacity None n m v w s s' = record {
  phase = s ∙ sym s';
  runs = λ k e.
      let q : Idle ≡ Runs k = sym s ∙ e in
      let z : ◌≡◌ {A = ℕ} 0 1 = cc in
      absurd (omega arith);
}
alike capacity (Some bytes) n m v w s s' = subst (Alike v) (one_view capacity bytes n m v s m w s') (record {
  phase = refl;
  runs = λ k e. let (path, p) = told_runs capacity bytes n m v s k e in (path, p, p, refl);
})

leg_on_one : (b : BookValue) (path : List ℕ) (position : ℕ) (r r' : Result leg.Leg Fault) → LegOn b path position r → LegOn b path position r' → r ≡ r'
leg_on_one b path position (Ok l) (Ok l') s s' =
    let c : l.chart ≡ l'.chart = s.1 ∙ sym s'.1 in
    let k : l.link ≡ l'.link = s.2 ∙ sym s'.2 in
    λ i. Ok (record { chart = c i; link = k i })
leg_on_one b path position (Ok l) (Err f) s s' = absurd (omega (arith, s.0, s'.0))
leg_on_one b path position (Err f) (Ok l) s s' = absurd (omega (arith, s.0, s'.0))
leg_on_one b path position (Err f) (Err g) s s' = ap Err (s.1 ∙ sym s'.1)

refused_one : (lent : List ℕ) (r r' : Result ℕ Fault) (left left' : List ℕ) (f : Fault) → r ≡ Err f → r' ≡ Err f → RestKept lent r left → RestKept lent r' left' → (r ≡ r') × (left ≡ left')
refused_one lent r r' left left' f e e' k k' =
    let l : left ≡ lent = subst (λ (x : Result ℕ Fault). RestKept lent x left) e k in
    let l' : left' ≡ lent = subst (λ (x : Result ℕ Fault). RestKept lent x left') e' k' in
    (e ∙ sym e', l ∙ sym l')

dates_shown_one : (b : BookValue) (path lent : List ℕ) (r r' : Result ℕ Fault) (left left' : List ℕ) → DatesShown b path lent r left → DatesShown b path lent r' left' → RestKept lent r left → RestKept lent r' left' → (r ≡ r') × (left ≡ left')
dates_shown_one b path lent (Ok n) (Ok n') left left' s s' k k' =
    let rest : drop (events_of b path) left ≡ drop (events_of b path) lent = subst (λ (x : ℕ). drop x left ≡ drop x lent) s.count k.2 in
    let rest' : drop (events_of b path) left' ≡ drop (events_of b path) lent = subst (λ (x : ℕ). drop x left' ≡ drop x lent) s'.count k'.2 in
    (ap Ok (s.count ∙ sym s'.count), same_dates b path left left' (k.1 ∙ sym k'.1) s.earliest s'.earliest (rest ∙ sym rest') (omega (arith, s.count, k.0, k.1)))
dates_shown_one b path lent (Ok n) (Err f) left left' s s' k k' = absurd (omega (arith, s.count, k.0, s'.0))
dates_shown_one b path lent (Err f) (Ok n) left left' s s' k k' = absurd (omega (arith, s'.count, k'.0, s.0))
dates_shown_one b path lent (Err f) (Err g) left left' s s' k k' = (ap Err (s.1 ∙ sym s'.1), k ∙ sym k')

module _ (v w : View) (a : Alike v w) where
  charts_one : (told told' : Verdict) → VerdictMeans v told → VerdictMeans w told' → told.charts ≡ told'.charts
  charts_one told told' m m' = go v.phase refl m.charts (subst (λ (x : Phase). ChartsIn w.book w.rows x told'.charts) (sym a.phase) m'.charts)
    where
      go : (f : Phase) → v.phase ≡ f → ChartsIn v.book v.rows f told.charts → ChartsIn w.book w.rows f told'.charts → told.charts ≡ told'.charts
      go Idle e c c' = c ∙ sym c'
      go (Open p l) e c c' = c ∙ sym c'
      go (Runs k) e c c' = let (path, p, q, s) = a.runs k e in p.charts told m ∙ sym (q.charts told' m')
      go Empty e c c' = c ∙ sym c'
      go Spent e c c' = c ∙ sym c'

  verdict_one : (told told' : Verdict) → VerdictMeans v told → VerdictMeans w told' → told ≡ told'
  verdict_one told told' m m' =
      let s : told.state ≡ told'.state = m.state ∙ ap state_of a.phase ∙ sym m'.state in
      let c = charts_one told told' m m' in
      λ i. record { state = s i; charts = c i }

  leg_one : (position : ℕ) (r r' : Result leg.Leg Fault) → LegMeans v position r → LegMeans w position r' → r ≡ r'
  leg_one position r r' m m' = go v.phase refl m (subst (λ (x : Phase). LegIn w.book w.rows x position r') (sym a.phase) m')
    where
      go : (f : Phase) → v.phase ≡ f → LegIn v.book v.rows f position r → LegIn w.book w.rows f position r' → r ≡ r'
      go Idle e c c' = c ∙ sym c'
      go (Open p l) e c c' = c ∙ sym c'
      go (Runs k) e c c' =
          let (path, p, q, s) = a.runs k e in
          leg_on_one v.book path position r r' (p.legs position r m) (subst (λ (x : BookValue). LegOn x path position r') s (q.legs position r' m'))
      go Empty e c c' = c ∙ sym c'
      go Spent e c c' = c ∙ sym c'

  dates_one : (lent : List ℕ) (r r' : Result ℕ Fault) (left left' : List ℕ) → DatesMeans v lent r left → DatesMeans w lent r' left' → (r ≡ r') × (left ≡ left')
  dates_one lent r r' left left' m m' = go v.phase refl m.dates (subst (λ (x : Phase). DatesIn w.book w.rows x lent r' left') (sym a.phase) m'.dates)
    where
      go : (f : Phase) → v.phase ≡ f → DatesIn v.book v.rows f lent r left → DatesIn w.book w.rows f lent r' left' → (r ≡ r') × (left ≡ left')
      go Idle e c c' = refused_one lent r r' left left' fault.Idle c c' m.rest m'.rest
      go (Open p l) e c c' = refused_one lent r r' left left' fault.NotRunning c c' m.rest m'.rest
      go (Runs k) e c c' =
          let (path, p, q, s) = a.runs k e in
          dates_shown_one v.book path lent r r' left left' (p.dates lent r left m) (subst (λ (x : BookValue). DatesShown x path lent r' left') s (q.dates lent r' left' m')) m.rest m'.rest
      go Empty e c c' = refused_one lent r r' left left' fault.NotRunning c c' m.rest m'.rest
      go Spent e c c' = refused_one lent r r' left left' fault.NotRunning c c' m.rest m'.rest

-- one call
answer_one : (capacity : ℕ) (t : Option (List ℕ)) (n m : ℕ) (v v' w w' : View) → Stands capacity t n m v → Stands capacity t n m v' → (c : Call) (a a' : Answer) (lent left left' : List ℕ) → Answers capacity v c a lent left w → Answers capacity v' c a' lent left' w' → (a ≡ a') × (left ≡ left')
answer_one capacity t n m v v' w w' s s' AskVerdict a a' lent left left' (told, e, b, k, l) (told', e', b', k', l') =
    (e ∙ ap answer.Told (verdict_one v v' (alike capacity t n m v v' s s') told told' b b') ∙ sym e', l ∙ sym l')
answer_one capacity t n m v v' w w' s s' (Begin bytes) a a' lent left left' (r, e, b, l) (r', e', b', l') =
    (e ∙ ap answer.Begun (begin_one capacity bytes.now v v' w w' r r' b b') ∙ sym e', l ∙ sym l')
answer_one capacity t n m v v' w w' s s' (Advance budget) a a' lent left left' (r, e, b, l) (r', e', b', l') =
    (e ∙ ap answer.Advanced (advance_one capacity budget t n m v v' w w' s s' r r' b b') ∙ sym e', l ∙ sym l')
answer_one capacity t n m v v' w w' s s' (Leg position) a a' lent left left' (r, e, b, k, l) (r', e', b', k', l') =
    (e ∙ ap answer.Shown (leg_one v v' (alike capacity t n m v v' s s') position r r' b b') ∙ sym e', l ∙ sym l')
answer_one capacity t n m v v' w w' s s' (Dates j) a a' lent left left' (r, e, b, k) (r', e', b', k') =
    let o = dates_one v v' (alike capacity t n m v v' s s') lent r r' left left' b b' in
    (e ∙ ap answer.Dated o.0 ∙ sym e', o.1)

-- two lists that are equal, with ends of one length
same_ends : (xs ys s t : List ℕ) → length s ≡ length t → xs ++ s ≡ ys ++ t → (xs ≡ ys) × (s ≡ t)
same_ends xs ys s t h e =
    let n : length xs ≡ length ys = omega (arith, length-append xs s, length-append ys t, ap length e) in
    let last : s ≡ t = sym (drop-append_seam xs s) ∙ ap (drop (length xs)) e ∙ ap (λ (x : ℕ). drop x (ys ++ t)) n ∙ drop-append_seam ys t in
    (append_cancel_right xs ys t (ap (λ (x : List ℕ). xs ++ x) (sym last) ∙ e), last)

no_push : (xs : List Call) (c : Call) → xs ++ c ∷ [] ≡ [] → ⊥
no_push xs c e = omega (arith, length_push xs c, ap length e)

-- the latest calls, over what led to them
did_one : (capacity : ℕ) (h : History) (v v' w w' : View) (d d' : Did) → Reaches capacity h v → Reaches capacity h v' → Does capacity v d w → Does capacity v' d' w' → d'.call ≡ d.call → d'.lent ≡ d.lent → d' ≡ d
did_one capacity h v v' w w' d d' r r' s s' ec el =
    let b : Answers capacity v' d.call d'.answer d'.lent d'.left w' = subst (λ (x : Call). Answers capacity v' x d'.answer d'.lent d'.left w') ec s'.answers in
    let b' : Answers capacity v' d.call d'.answer d.lent d'.left w' = subst (λ (x : List ℕ). Answers capacity v' d.call d'.answer x d'.left w') el b in
    let e = answer_one capacity (taken h) (steps h) (budgets h) v' v w' w (standing capacity r') (standing capacity r) d.call d'.answer d.answer d.lent d'.left d.left b' s.answers in
    λ i. record { call = ec i; answer = e.0 i; lent = el i; left = e.1 i }

one_history : (capacity : ℕ) (h other : History) (w w' : View) → Reaches capacity h w → Reaches capacity other w' → calls_of other ≡ calls_of h → lent_of other ≡ lent_of h → other ≡ h
one_history capacity [] [] w w' r r' ec el = refl
one_history capacity [] (d' ∷ g') w w' r r' ec el = absurd (no_push (calls_of g') d'.call ec)
one_history capacity (d ∷ g) [] w w' r r' ec el = absurd (no_push (calls_of g) d.call (sym ec))
one_history capacity (d ∷ g) (d' ∷ g') w w' r r' ec el =
    let (v, before, s) = led capacity r in
    let (v', before', s') = led capacity r' in
    let (cs, c) = same_from_push (calls_of g') (calls_of g) d'.call d.call ec in
    let (ls, l) = same_ends (lent_of g') (lent_of g) d'.lent d.lent (s'.lends ∙ ap space c ∙ sym s.lends) el in
    let e : g' ≡ g = one_history capacity g g' v v' before before' cs ls in
    let first : d' ≡ d = did_one capacity g v v' w w' d d' before (subst (λ (x : History). Reaches capacity x v') e before') s s' c l in
    λ i. first i ∷ e i

pub only_law : OnlyLaw
only_law capacity h v r other w q = one_history capacity h other v w r q
