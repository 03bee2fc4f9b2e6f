-- What an examination rests on, read and made.
use Rattle.std.proofs.Common.{◌≡◌, ℕ, Bool, true, false, List, [], sym, refl, subst, ⊎_elim}
use mathlib.Core.Logic.{∥∥₁_elim}
use native.Mathlib.Bridge.{le_prop}
use Rattle.bookformat.specs.Values.{BookValue}
use Rattle.register.specs.declared.row.Row.{Row}
use Rattle.search.specs.Rows.{class_at}
use Rattle.search.specs.Walks as search
use Rattle.classes.specs.Ranged.{ranged}
use Rattle.history.specs.declared.phase.Phase.{Phase}
use Rattle.history.specs.declared.phase.Phase.TheVariants.{Idle, Open, Runs, Empty, Spent}
use Rattle.history.specs.Views.{phase_of, rows_of}
use Rattle.walk.specs.Trying.{NextExists, Started}

pub next_known : (b : BookValue) (f : Phase) → ∥ NextExists b (phase_of f) ∥₁ → NextExists b (phase_of f)
next_known b Idle s = tt
next_known b (Open p l) s = ∥∥₁_elim s le_prop (λ h. h)
next_known b (Runs k) s = tt
next_known b Empty s = tt
next_known b Spent s = tt

settled_next : (b : BookValue) (rows : List Row) (f : search.Phase) (tried : List (ℕ × ℕ)) → search.Settles (ranged b) (rows_of b rows) tried f → NextExists b f
settled_next b rows search.Idle tried h = tt
settled_next b rows (search.Open p l) tried h = h.0.0.1
settled_next b rows (search.Runs k) tried h = tt
settled_next b rows search.Empty tried h = tt
settled_next b rows search.Spent tried h = tt

pub started_next : (b : BookValue) (rows : List Row) (f : Phase) → Started b rows f → NextExists b (phase_of f)
started_next b rows f h =
    ⊎_elim
    (λ nowhere. subst (NextExists b) (sym nowhere.phase) tt)
    (λ at. by ((ranged b).final (class_at (rows_of b rows) 0)) refl at.1.phase)
    h
  where
    by : (v : Bool) → (ranged b).final (class_at (rows_of b rows) 0) ≡ v → search.Enters (ranged b) (rows_of b rows) [] 0 (phase_of f) → NextExists b (phase_of f)
    by true e g = subst (NextExists b) (sym (g.0 e)) tt
    by false e g = settled_next b rows (phase_of f) [] (g.1 e)
