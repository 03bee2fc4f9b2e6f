-- Rows that are read and entered, as the walk sees it.
use Rattle.std.proofs.Common.{◌≡◌, ℕ, suc, ◌+◌, ◌<◌, ◌≤◌, Bool, true, false, List, [], ◌∷◌, ◌++◌, length, get_or, replicate, pos, Some, None, sym, refl, ap, ◌∙◌, subst, inl, inr, add-one, arith}
use native.Mathlib.Decide.{dec_lt}
use Rattle.std.proofs.lemmas.List.{get_or_past, get_or-replicate, length-replicate, map_push}
use Rattle.bookformat.specs.Values.{BookValue}
use Rattle.bookformat.specs.Rules.{chart, GoodBook}
use Rattle.register.specs.declared.row.Class.{Class}
use Rattle.register.specs.declared.row.Row.{Row}
use Rattle.register.specs.declared.interface.Entered.{Entered}
use Rattle.register.specs.declared.interface.Entered.TheVariants as entered
use Rattle.register.specs.Meaning.{no_row, row_at, Enters, Reads}
use Rattle.search.specs.Systems.{Goes}
use Rattle.search.specs.Rows.{class_at, first_row, led_row}
use Rattle.search.specs.Places.{Found}
use Rattle.search.proofs.Told.{place_law}
use Rattle.classes.specs.Ranged.{ranged}
use Rattle.classes.proofs.Lawfully.{ranged_law}
use Rattle.history.specs.declared.phase.Phase.{Phase}
use Rattle.history.specs.declared.phase.Phase.TheVariants as phase
use Rattle.history.specs.Views.{phase_of, row_of, rows_of}
use Rattle.history.proofs.Seen.{length_rows_of}
use Rattle.walk.specs.declared.outcome.Outcome.{Outcome}
use Rattle.walk.specs.declared.outcome.Outcome.TheVariants.{Barred, Known, New}
use Rattle.walk.specs.Trying.{Alike, outcome_by, LedTo, Starts, Tried, Follows, Started}
use Rattle.walk.proofs.Seeking.{class_row}
use Rattle.walk.proofs.Leading.{led_like}

-- A row that is read into a blank one

module _ (rows : List Row) (place : ℕ) (before after : Row) (chart : before.class.chart ≡ 0) (entries : before.class.profile.entries ≡ replicate 64 (pos 0)) (origin : before.origin ≡ None) where
  zeros : (k : ℕ) → get_or (replicate 64 (pos 0)) k (pos 0) ≡ pos 0
  zeros k = elim (dec_lt k 64) [ yes h ↦ get_or-replicate 64 k (pos 0) (pos 0) h | no h ↦ get_or_past (replicate 64 (pos 0)) k (pos 0) (omega (arith, length-replicate 64 (pos 0))) ]

  absent : length rows ≤ place → row_at rows place ≡ no_row
  absent h = get_or_past rows place no_row h

  pub read_alike : (r : Bool) → Reads rows place before r after → Alike after.class (row_at rows place).class
  read_alike true h = record { chart = ap (λ (x : Row). x.class.chart) h.1; entries = λ k. ap (λ (x : Row). get_or x.class.profile.entries k (pos 0)) h.1 }
  read_alike false h =
      let same = absent h.0 in
      record {
        chart = ap (λ (x : Row). x.class.chart) h.1 ∙ chart ∙ ap (λ (x : Row). x.class.chart) (sym same);
        entries = λ k. ap (λ (x : Row). get_or x.class.profile.entries k (pos 0)) h.1 ∙ ap (λ l. get_or l k (pos 0)) entries ∙ zeros k ∙ ap (λ (x : Row). get_or x.class.profile.entries k (pos 0)) (sym same);
      }

  pub read_origin : (r : Bool) → Reads rows place before r after → after.origin ≡ (row_at rows place).origin
  read_origin true h = ap (λ (x : Row). x.origin) h.1
  read_origin false h = ap (λ (x : Row). x.origin) h.1 ∙ origin ∙ ap (λ (x : Row). x.origin) (sym (absent h.0))

-- A pair is tried

module _ (b : BookValue) (capacity : ℕ) (rows : List Row) (p l : ℕ) where
  pub tried_barred : GoodBook b → (s : Class) → Alike s (row_at rows p).class → LedTo b s l None → Tried b capacity rows p l Barred rows
  tried_barred good s e h = (subst (λ (x : Class). Goes (ranged b) x l → ⊥) (sym (class_row b rows p)) (led_like b good s (row_at rows p).class l None e h), refl)

  module _ (good : GoodBook b) (s : Class) (is : Alike s (row_at rows p).class) (row : Row) (from : row_of b row ≡ led_row (ranged b) p l row.class) (led : LedTo b s l (Some row.class)) where
    leads : (ranged b).leads (class_at (rows_of b rows) p) l row.class
    leads = subst (λ (x : Class). (ranged b).leads x l row.class) (sym (class_row b rows p)) (led_like b good s (row_at rows p).class l (Some row.class) is led)

    pub tried_entered : (e : Entered) (after : List Row) → Enters capacity rows row e after → Tried b capacity rows p l (outcome_by e) after
    tried_entered (entered.Known k) after h = (row.class, leads, (omega (arith, length_rows_of b rows, h.0.0), class_row b rows k ∙ h.0.1), ap (rows_of b) h.1)
    tried_entered (entered.New k) after h = (
      row.class,
      leads,
      (λ i held. h.0 i (omega (arith, length_rows_of b rows, held.0)) (sym (class_row b rows i) ∙ held.1)),
      omega (arith, length_rows_of b rows, h.1),
      h.2 ∙ sym (length_rows_of b rows),
      ap (rows_of b) h.3 ∙ map_push (row_of b) rows row ∙ ap (λ x. rows_of b rows ++ x ∷ []) from,
    )
    tried_entered entered.Full after h = (
      row.class,
      leads,
      (λ i held. h.0 i (omega (arith, length_rows_of b rows, held.0)) (sym (class_row b rows i) ∙ held.1)),
      omega (arith, length_rows_of b rows, h.1),
      ap (rows_of b) h.2,
    )

-- Where the walk then stands

differ : true ≡ false → ⊥
differ z = let w : ◌≡◌ {A = ℕ} 0 1 = cc in omega arith

module _ (b : BookValue) (rows : List Row) (p l : ℕ) (o : Outcome) where
  -- the pairs behind link l
  found_behind : (n : ℕ) (f : Phase) → n ≡ l → Found (ranged b) (rows_of b rows) p (n + 1) (phase_of f) → Found (ranged b) (rows_of b rows) p (suc l) (phase_of f)
  found_behind n f e h = subst (λ (m : ℕ). Found (ranged b) (rows_of b rows) p m (phase_of f)) (add-one n ∙ ap suc e) h

  pub follows_barred : (n : ℕ) (f : Phase) → n ≡ l → o ≡ Barred → Found (ranged b) (rows_of b rows) p (n + 1) (phase_of f) → Follows b rows p l o f
  follows_barred n f e is h = subst (λ (x : Outcome). Follows b rows p l x f) (sym is) (found_behind n f e h)

  pub follows_known : (n k : ℕ) (f : Phase) → n ≡ l → o ≡ Known k → Found (ranged b) (rows_of b rows) p (n + 1) (phase_of f) → Follows b rows p l o f
  follows_known n k f e is h = subst (λ (x : Outcome). Follows b rows p l x f) (sym is) (found_behind n f e h)

  -- a new row, whether it is final
  module _ (k : ℕ) (is : o ≡ New k) (r : Row) (at : r ≡ row_at rows k) (v : Bool) (final : v ≡ (chart b r.class.chart).final) where
    final_row : (ranged b).final (class_at (rows_of b rows) k) ≡ v
    final_row = ap (λ (c : Class). (chart b c.chart).final) (class_row b rows k ∙ sym (ap (λ (x : Row). x.class) at)) ∙ sym final

    pub follows_runs : v ≡ true → Follows b rows p l o (phase.Runs k)
    follows_runs so = subst (λ (x : Outcome). Follows b rows p l x (phase.Runs k)) (sym is) (λ h. refl, λ h. absurd (differ (sym so ∙ sym final_row ∙ h)))

    pub follows_on : (n : ℕ) (f : Phase) → n ≡ l → v ≡ false → Found (ranged b) (rows_of b rows) p (n + 1) (phase_of f) → Follows b rows p l o f
    follows_on n f e so h = subst (λ (x : Outcome). Follows b rows p l x f) (sym is) (λ g. absurd (differ (sym g ∙ final_row ∙ so)), λ g. found_behind n f e h)

-- The walk begins

module _ (b : BookValue) (good : GoodBook b) where
  pub started_nowhere : (rows : List Row) → rows ≡ [] → Starts b None → Started b rows phase.Empty
  started_nowhere rows e h = inl (record { none = h; rows = ap (rows_of b) e; tried = refl; phase = refl })

  -- the first row is new, since none is held
  entered_first : (capacity : ℕ) (rows : List Row) (row : Row) (e : Entered) (after : List Row) → rows ≡ [] → 0 < capacity → Enters capacity rows row e after → after ≡ row ∷ []
  entered_first capacity rows row (entered.Known k) after empty room h = absurd (omega (arith, h.0.0, ap length empty))
  entered_first capacity rows row (entered.New k) after empty room h = h.3 ∙ ap (λ (x : List Row). x ++ row ∷ []) empty
  entered_first capacity rows row entered.Full after empty room h = absurd (omega (arith, h.1, ap length empty))

  module _ (capacity : ℕ) (rows : List Row) (row : Row) (e : Entered) (after : List Row) (empty : rows ≡ []) (room : 0 < capacity) (plain : row_of b row ≡ first_row (ranged b) row.class) (enters : Enters capacity rows row e after) (at : Starts b (Some row.class)) where
    one : rows_of b after ≡ first_row (ranged b) row.class ∷ []
    one = ap (rows_of b) (entered_first capacity rows row e after empty room enters) ∙ ap (λ x. x ∷ []) plain

    final_is : (ranged b).final (class_at (rows_of b after) 0) ≡ (chart b row.class.chart).final
    final_is = ap (λ x. (ranged b).final (class_at x 0)) one

    pub started_runs : (v : Bool) → v ≡ (chart b row.class.chart).final → v ≡ true → Started b after (phase.Runs 0)
    started_runs v is so = inr (
      row.class,
      record {
        starts = at;
        rows = one;
        tried = refl;
        phase = (λ h. refl, λ h. absurd (differ (sym so ∙ is ∙ sym final_is ∙ h)));
      },
    )

    pub started_found : (v : Bool) (f : Phase) → v ≡ (chart b row.class.chart).final → v ≡ false → Found (ranged b) (rows_of b after) 0 0 (phase_of f) → Started b after f
    started_found v f is so found = inr (
      row.class,
      record {
        starts = at;
        rows = one;
        tried = refl;
        phase = (λ h. absurd (differ (sym h ∙ final_is ∙ sym is ∙ so)), λ h. ((place_law (ranged b) (ranged_law b good)).begins (rows_of b after) (phase_of f)).0 found);
      },
    )
