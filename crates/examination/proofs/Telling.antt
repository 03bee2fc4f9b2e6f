-- What verdict, leg and dates tell of the rows.
use Rattle.std.proofs.Common.{◌≡◌, ℕ, zero, suc, ◌-◌, ◌<◌, ◌≤◌, List, length, take, Some, Ok, Err, Result, sym, refl, ap, ◌∙◌, subst, arith, length-take-le, get_or-take}
use Rattle.bookformat.specs.declared.fault.Fault.{Fault}
use Rattle.bookformat.specs.declared.fault.Fault.TheVariants as fault
use Rattle.bookformat.specs.Values.{BookValue}
use Rattle.register.specs.declared.row.Row.{Row}
use Rattle.register.specs.Meaning.{row_at}
use Rattle.history.specs.declared.phase.Phase.{Phase}
use Rattle.history.specs.declared.phase.Phase.TheVariants.{Idle, Open, Runs, Empty, Spent}
use Rattle.history.specs.declared.calls.Leg.{Leg}
use Rattle.history.specs.Meanings.{TrailTo, ChartsIn, link_to, LegIn, DatesIn}
use Rattle.history.proofs.Seen.{at_rows_of}
use Rattle.examination.specs.Chains.{CountsTo, ClimbsTo, LinksTo, LegAt, link_of, GoalIn, DatedLinks}
use Rattle.examination.proofs.Climbing.{up, top}

-- the phase of which the goal is a row
pub goal_runs : (f : Phase) (k : ℕ) → GoalIn f (Ok k) → f ≡ Runs k
goal_runs Idle k e = cc
goal_runs (Open p l) k e = cc
goal_runs (Runs j) k e = cc
goal_runs Empty k e = cc
goal_runs Spent k e = cc

-- verdict

pub charts_runs : (b : BookValue) (rows : List Row) (f : Phase) (k n : ℕ) → f ≡ Runs k → CountsTo rows k n → ChartsIn b rows f n
charts_runs b rows f k n e h = subst (λ (g : Phase). ChartsIn b rows g n) (sym e) (h b)

pub charts_else : (b : BookValue) (rows : List Row) (f : Phase) (n : ℕ) → ((k : ℕ) → f ≡ Runs k → ⊥) → n ≡ 0 → ChartsIn b rows f n
charts_else b rows Idle n not e = e
charts_else b rows (Open p l) n not e = e
charts_else b rows (Runs k) n not e = absurd (not k refl)
charts_else b rows Empty n not e = e
charts_else b rows Spent n not e = e

-- leg

module _ (b : BookValue) (rows : List Row) (f : Phase) (k : ℕ) (runs : f ≡ Runs k) where
  pub leg_past : (n position : ℕ) → CountsTo rows k n → n ≤ position → LegIn b rows f position (Err (fault.OffPath n))
  leg_past n position counts h =
      subst (λ (g : Phase). LegIn b rows g position (Err (fault.OffPath n))) (sym runs)
      (λ path t. let e = counts b path t in (omega arith, ap fault.OffPath e))

  link_is : (position : ℕ) (path : List ℕ) (row : ℕ) → position ≤ length path → TrailTo b rows row (take position path) → link_of (row_at rows row).origin ≡ link_to path position
  link_is zero path row h t = ap link_of (top b rows row (take 0 path) t (length-take-le 0 path h))
  link_is (suc j) path row h t =
      let u = up b rows row j (take (suc j) path) t (length-take-le (suc j) path h) in
      ap link_of u.1 ∙ ap Some (u.2 ∙ get_or-take (suc j) path j 0 (omega arith))

  pub leg_here : (n position row : ℕ) (leg : Leg) → CountsTo rows k n → position < n → ClimbsTo rows k (n - 1 - position) row → LegAt rows row leg → LegIn b rows f position (Ok leg)
  leg_here n position row leg counts h climbs at = subst (λ (g : Phase). LegIn b rows g position (Ok leg)) (sym runs) (λ path t.
      let e = counts b path t in
      let levels : length path - (n - 1 - position) ≡ position = omega arith in
      let here = subst (λ (m : ℕ). TrailTo b rows row (take m path)) levels (climbs b path t (omega arith)) in
      record {
        on_path = omega arith;
        row = row;
        trail = here;
        chart = at.0 ∙ ap (λ r. r.class.chart) (sym (at_rows_of b rows row));
        link = at.1 ∙ link_is position path row (omega arith) here;
      })

  -- dates

  pub dates_of_lem : (links route lent : List ℕ) (r : Result ℕ Fault) (left : List ℕ) → links ≡ route → LinksTo rows k route → DatedLinks b links lent r left → DatesIn b rows f lent r left
  dates_of_lem links route lent r left same are h =
      subst (λ (g : Phase). DatesIn b rows g lent r left) (sym runs)
      (λ path t is datable. (subst (λ (l : List ℕ). DatedLinks b l lent r left) (same ∙ are b path t) h).dates is datable)
