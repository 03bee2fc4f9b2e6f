-- One step after another.
use Rattle.std.proofs.Common.{◌≡◌, ℕ, suc, ◌+◌, ◌<◌, Bool, true, false, List, sym, refl, ap, subst, add-one, arith}
use Rattle.bookformat.specs.Values.{BookValue}
use Rattle.register.specs.declared.row.Row.{Row}
use Rattle.search.specs.Rows.{class_at}
use Rattle.search.specs.Walks as search
use Rattle.search.specs.Places.{Found, Moves, stays, moves}
use Rattle.classes.specs.Ranged.{ranged}
use Rattle.history.specs.declared.phase.Phase.{Phase}
use Rattle.history.specs.declared.phase.Phase.TheVariants.{Open}
use Rattle.history.specs.Views.{phase_of, rows_of}
use Rattle.history.proofs.Seen.{phase_one}
use Rattle.walk.specs.declared.outcome.Outcome.{Outcome}
use Rattle.walk.specs.declared.outcome.Outcome.TheVariants.{Barred, Full, Known, New}
use Rattle.walk.specs.Trying.{outcome_of, Follows, Stepped, NextExists, Gone}

-- what is known while the walk goes on
pub record Under (b : BookValue) (capacity : ℕ) (rows : List Row) (f : Phase) (steps : ℕ) (after : List Row) (g : Phase) : Type 0 where
  pub made : Moves (ranged b) capacity (rows_of b rows) (phase_of f) steps (rows_of b after) (phase_of g)
  pub exists : NextExists b (phase_of g)

pub under_none : (b : BookValue) (capacity : ℕ) (rows : List Row) (f : Phase) → NextExists b (phase_of f) → Under b capacity rows f 0 rows f
under_none b capacity rows f h = record { made = stays refl refl refl; exists = h }

exists_found : (b : BookValue) (rows : List Row) (p l : ℕ) (f : search.Phase) → Found (ranged b) (rows_of b rows) p l f → NextExists b f
exists_found b rows p l search.Idle h = tt
exists_found b rows p l (search.Open q m) h = h.0.1
exists_found b rows p l (search.Runs k) h = tt
exists_found b rows p l search.Empty h = tt
exists_found b rows p l search.Spent h = tt

exists_after : (b : BookValue) (rows : List Row) (p l : ℕ) (o : Outcome) (f : Phase) → Follows b rows p l o f → NextExists b (phase_of f)
exists_after b rows p l Barred f h = exists_found b rows p (suc l) (phase_of f) h
exists_after b rows p l Full f h = subst (NextExists b) (sym h) tt
exists_after b rows p l (Known k) f h = exists_found b rows p (suc l) (phase_of f) h
exists_after b rows p l (New k) f h = go ((ranged b).final (class_at (rows_of b rows) k)) refl
  where
    go : (v : Bool) → (ranged b).final (class_at (rows_of b rows) k) ≡ v → NextExists b (phase_of f)
    go true e = subst (NextExists b) (sym (h.0 e)) tt
    go false e = exists_found b rows p (suc l) (phase_of f) (h.1 e)

pub under_more : (b : BookValue) (capacity capacity' : ℕ) (rows : List Row) (f : Phase) (n : ℕ) (after : List Row) (g : Phase) (p l : ℕ) (later : List Row) (z : Phase) → capacity' ≡ capacity → g ≡ Open p l → Under b capacity rows f n after g → Stepped b capacity' after p l later z → Under b capacity rows f (n + 1) later z
under_more b capacity capacity' rows f n after g p l later z e is u s = record {
  made = moves p l (outcome_of s.outcome) u.made (ap phase_of is) (subst (λ (c : ℕ). search.Tries (ranged b) c (rows_of b after) p l (outcome_of s.outcome) (rows_of b later)) e s.tried) s.follows (add-one n);
  exists = exists_after b later p l s.outcome z s.follows;
}

-- the walk stops where it is not open, or where the budget is used up
module _ (b : BookValue) (capacity : ℕ) (rows : List Row) (f : Phase) (budget n : ℕ) (after : List Row) (g : Phase) (u : Under b capacity rows f n after g) where
  pub gone_closed : n < budget → ((p l : ℕ) → g ≡ Open p l → ⊥) → Gone b capacity rows f budget n after g
  gone_closed lt not = record { moves = u.made; within = omega arith; stopped = λ h o. not o.0 o.1 (phase_one g (Open o.0 o.1) o.2); exists = u.exists }

  pub gone_whole : n ≡ budget → Gone b capacity rows f budget budget after g
  gone_whole e = record {
    moves = subst (λ (k : ℕ). Moves (ranged b) capacity (rows_of b rows) (phase_of f) k (rows_of b after) (phase_of g)) e u.made;
    within = omega arith;
    stopped = λ h o. absurd (omega arith);
    exists = u.exists;
  }
