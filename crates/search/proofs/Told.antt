-- The laws of rows, pairs and states.
use Rattle.std.proofs.Common.{◌≡◌, ℕ, suc, ◌*◌, ◌<◌, ◌≤◌, true, false, ◌⊎◌, ◌↔◌, List, [], ◌∷◌, length, sym, refl, ap, subst, inl, inr, mul-le-mul_right, suc-mul, arith}
use Rattle.std.proofs.lemmas.Bool.{cases_Bool}
use Rattle.search.specs.Systems.{System, Lawful}
use Rattle.search.specs.Rows.{Row, class_at, FirstWaits}
use Rattle.search.specs.Walks.{Phase, Idle, Open, Runs, Empty, Spent, IsOpen, Stage, Outcome, Barred, Known, New, Full, Tries, After, Step, Steps, none, more, Walked}
use Rattle.search.specs.Places.{Continues, Moves, stays, moves}
use Rattle.search.specs.Laws.{RowsLaw, TrailLaw, PairsLaw, PhaseLaw, EmptyLaw, RunsLaw, SpentLaw, PlaceLaw}
use Rattle.search.proofs.Trails.{trail_one, trail_below, trail_top, trail_up, trail_part, trail_in, trail_of}
use Rattle.search.proofs.Pairs.{Done, found_settles, settles_found, done_none}
use Rattle.search.proofs.Unique.{same_stage}
use Rattle.search.proofs.Breadth.{Front, Crowd, Told}
use Rattle.search.proofs.Stepping.{done_after}
use Rattle.search.proofs.Walking.{sound}

pub trail_law : (y : System) → TrailLaw y
trail_law y = record {
  one = λ rows k path other t u. trail_one t u;
  below = λ rows k path t. trail_below t;
  top = λ rows k path t e. trail_top t e;
  up = λ rows k n path t e. trail_up n t e;
  part = λ rows k n path t h. trail_part n t h;
}

module _ (y : System) (laws : Lawful y) where
  pub rows_law : RowsLaw y
  rows_law capacity n z w =
      let k = (sound y laws capacity n z w).0 in
      record {
        few = k.few;
        apart = k.whole.apart;
        first = k.whole.first;
        came = k.whole.came;
        trail = trail_of y laws z.rows k.whole;
        in_class = λ a path t. trail_in y laws z.rows k.whole t;
        longer = λ a b path other h t u. k.ordered a b path other t u h;
      }

  module _ (capacity n : ℕ) (z : Stage y) (w : Walked y capacity n z) where
    -- what the state says, where it is this one
    told : (f : Phase) → z.phase ≡ f → Told y capacity n z.rows z.tried f
    told f e = subst (Told y capacity n z.rows z.tried) e (sound y laws capacity n z w).1

    pub open_front : (p l : ℕ) → z.phase ≡ Open p l → Front y capacity n z.rows z.tried p l × FirstWaits y z.rows z.tried p l
    open_front p l e = told (Open p l) e

    unfinished : IsOpen z.phase → n < capacity * y.links
    unfinished (p, l, e) =
        let f = open_front p l e in
        let h : suc p ≤ capacity = omega (arith, f.0.held, f.0.kept.few) in
        omega (arith, f.0.rank, f.1.0.0.1, mul-le-mul_right {m = suc p} {n = capacity} y.links h, suc-mul p y.links)

    final_row : (f : Phase) → Told y capacity n z.rows z.tried f → (k : ℕ) → k < length z.rows → y.final (class_at z.rows k) ≡ true → f ≡ Runs k
    final_row Idle t k h e = absurd t
    final_row (Open p l) t k h e = absurd (t.0.plain k h e)
    final_row (Runs j) t k h e = ap Runs (sym (t.2 k h e))
    final_row Empty t k h e = absurd (t.1 k h e)
    final_row Spent t k h e = absurd (t.0 k h e)

  pub pairs_law : PairsLaw y
  pairs_law capacity n z w =
      let k = (sound y laws capacity n z w).0 in
      record { pairs = k.pairs; once = k.once; count = k.count; most = k.most; unfinished = unfinished capacity n z w }

  pub phase_law : PhaseLaw y
  phase_law capacity n z w = record {
    begun = λ e. told capacity n z w Idle e;
    waits = λ p l e. (open_front capacity n z w p l e).1;
    none_waits = λ e. (told capacity n z w Empty e).0;
    final = λ k h e. final_row capacity n z w z.phase (told capacity n z w z.phase refl) k h e;
  }

  pub empty_law : EmptyLaw y
  empty_law capacity n z w e path s i = go (cases_Bool (y.final s))
    where
      go : (y.final s ≡ true) ⊎ (y.final s ≡ false) → y.final s ≡ false
      go (inl f) = absurd ((told capacity n z w Empty e).2 path s i f)
      go (inr f) = f

  pub runs_law : RunsLaw y
  runs_law capacity n k z w e =
      let r = told capacity n z w (Runs k) e in
      let whole = (sound y laws capacity n z w).0.whole in
      let t = trail_of y laws z.rows whole k r.0 in
      record { path = t.0; held = r.0; trail = t.1; in_class = trail_in y laws z.rows whole t.1; final = r.1; shortest = r.3 t.0 t.1 }

  crowd_of : (capacity n : ℕ) (z : Stage y) → Walked y capacity n z → z.phase ≡ Spent → Crowd y capacity
  crowd_of capacity n z w e = (told capacity n z w Spent e).1

  pub spent_law : SpentLaw y
  spent_law = record {
    crowd = crowd_of;
    enough = λ capacity n z w few e. let c = crowd_of capacity n z w e in omega (arith, few c.0 c.1, c.2);
  }

  -- how a walk goes on from the pair that it tries next
  module _ (capacity n p l : ℕ) (z : Stage y) (w : Walked y capacity n z) (e : z.phase ≡ Open p l) where
    module _ (o : Outcome) (rows : List (Row y)) (t : Tries y capacity z.rows p l o rows) where
      done_now : Done y rows ((p, l) ∷ z.tried) p (suc l)
      done_now = let f = open_front capacity n z w p l e in done_after y laws capacity n z.rows z.tried p l f.0 f.1 o rows t

    pub continue : (o : Outcome) (rows : List (Row y)) → Tries y capacity z.rows p l o rows → (f : Phase) → Continues y rows p l o f ↔ After y rows ((p, l) ∷ z.tried) o f
    continue Barred rows t f = (found_settles y rows ((p, l) ∷ z.tried) p (suc l) (done_now Barred rows t) f, settles_found y rows ((p, l) ∷ z.tried) p (suc l) (done_now Barred rows t) f)
    continue (Known k) rows t f = (found_settles y rows ((p, l) ∷ z.tried) p (suc l) (done_now (Known k) rows t) f, settles_found y rows ((p, l) ∷ z.tried) p (suc l) (done_now (Known k) rows t) f)
    continue (New k) rows t f = (
      (λ c. (c.0, λ q. found_settles y rows ((p, l) ∷ z.tried) p (suc l) (done_now (New k) rows t) f (c.1 q))),
      λ c. (c.0, λ q. settles_found y rows ((p, l) ∷ z.tried) p (suc l) (done_now (New k) rows t) f (c.1 q)),
    )
    continue Full rows t f = ((λ c. c), λ c. c)

  step_walked : (capacity n : ℕ) (z w : Stage y) → Walked y capacity n z → Step y capacity z w → Walked y capacity (suc n) w
  step_walked capacity n z w h s = record { start = h.start; room = h.room; begins = h.begins; made = more h.made s refl }

  steps_walked : (capacity n : ℕ) (z : Stage y) → Walked y capacity n z → {m : ℕ} {w : Stage y} → Steps y capacity z m w → (k : ℕ) × Walked y capacity k w
  steps_walked capacity n z h (none e q) = (n, subst (Walked y capacity n) (sym q) h)
  steps_walked capacity n z h {w = w} (more {v = v} s t e) = let r = steps_walked capacity n z h s in (suc r.0, step_walked capacity r.0 v w r.1 t)

  pub moves_steps : (capacity n : ℕ) (z : Stage y) → Walked y capacity n z → {m : ℕ} {rows : List (Row y)} {f : Phase} → Moves y capacity z.rows z.phase m rows f → (tried : List (ℕ × ℕ)) × Steps y capacity z m (record { rows = rows; tried = tried; phase = f })
  moves_steps capacity n z h {rows = rows} {f = f} (stays e r q) = (z.tried, none e (same_stage y (record { rows = rows; tried = z.tried; phase = f }) z r refl q))
  moves_steps capacity n z h {rows = after} {f = g} (moves {rows = rows} {f = f} p l o s e t c q) =
      let i = moves_steps capacity n z h s in
      let v : Stage y = record { rows = rows; tried = i.0; phase = f } in
      let w = steps_walked capacity n z h i.1 in (
        (p, l) ∷ i.0,
        more i.1 (record {
          place = p;
          link = l;
          outcome = o;
          is_open = e;
          first = (open_front capacity w.0 v w.1 p l e).1;
          tries = t;
          tried = refl;
          after = (continue capacity w.0 p l v w.1 e o after t g).0 c;
        }) q,
      )

  pub steps_moves : (capacity n : ℕ) (z : Stage y) → Walked y capacity n z → {m : ℕ} {w : Stage y} → Steps y capacity z m w → Moves y capacity z.rows z.phase m w.rows w.phase
  steps_moves capacity n z h (none e q) = stays e (ap (λ (x : Stage y). x.rows) q) (ap (λ (x : Stage y). x.phase) q)
  steps_moves capacity n z h {w = w} (more {v = v} s t e) =
      let r = steps_walked capacity n z h s in
      let a = subst (λ (x : List (ℕ × ℕ)). After y w.rows x t.outcome w.phase) t.tried t.after in
      moves t.place t.link t.outcome (steps_moves capacity n z h s) t.is_open t.tries
      ((continue capacity r.0 t.place t.link v r.1 t.is_open t.outcome w.rows t.tries w.phase).1 a) e

  pub place_law : PlaceLaw y
  place_law = record {
    tried = λ capacity n p l z w e q m h. let f = open_front capacity n z w p l e in ((f.0.done q m h).0, (f.0.done q m h).1);
    begins = λ rows f. (found_settles y rows [] 0 0 (done_none y rows [] refl) f, settles_found y rows [] 0 0 (done_none y rows [] refl) f);
    continues = continue;
    steps = λ capacity n m z rows f w s. moves_steps capacity n z w s;
    moves = λ capacity n m z v w s. steps_moves capacity n z w s;
  }
