-- A whole report.
use Rattle.std.proofs.Common.{◌≡◌, ℕ, List, drop, Ok, Err, Result, sym, refl, ap, ◌∙◌, subst, arith}
use Rattle.std.proofs.lemmas.List.{drop_at}
use Rattle.bookformat.specs.declared.fault.Fault.{Fault}
use Rattle.bookformat.specs.Values.{BookValue}
use Rattle.register.specs.declared.row.Row.{Row}
use Rattle.history.specs.declared.phase.Phase.{Phase}
use Rattle.history.specs.declared.phase.Phase.TheVariants as phase
use Rattle.arrayvec.specs.ArrayVec.{ArrayVec}
use Rattle.examination.specs.Chains.{LinksTo}
use Rattle.examination.specs.Routes.{RouteIn}
use Rattle.report.specs.Texts.{Writes}
use Rattle.report.specs.Means.{TextKept, ReportIn, LinksReported}

-- what is written leaves the rest
pub writes_kept : (text before after : List ℕ) (r : Result ℕ Fault) → Writes text before after r → TextKept r before after
writes_kept text before after (Ok n) w = (w.1, ap (drop n) w.2 ∙ drop_at text (drop n before) n (sym w.0))
writes_kept text before after (Err f) w = w.2

-- Of the links of the path found

pub route_runs : (rows : List Row) (f : Phase) (route : ArrayVec ℕ) → RouteIn rows f (Ok route) → (k : ℕ) × (f ≡ phase.Runs k) × LinksTo rows k route.items
route_runs rows phase.Idle route e = let w : ◌≡◌ {A = ℕ} 0 1 = cc in absurd (omega arith)
route_runs rows (phase.Open p l) route e = let w : ◌≡◌ {A = ℕ} 0 1 = cc in absurd (omega arith)
route_runs rows (phase.Runs k) route to = (k, refl, to)
route_runs rows phase.Empty route e = let w : ◌≡◌ {A = ℕ} 0 1 = cc in absurd (omega arith)
route_runs rows phase.Spent route e = let w : ◌≡◌ {A = ℕ} 0 1 = cc in absurd (omega arith)

module _ (rows : List Row) (f : Phase) (route : ArrayVec ℕ) (found : RouteIn rows f (Ok route)) where
  pub found_report : (b : BookValue) (links work text : List ℕ) (r : Result ℕ Fault) (work' text' : List ℕ) → links ≡ route.items → LinksReported b links work text r work' text' → ReportIn b rows f work text r work' text'
  found_report b links work text r work' text' same h =
      let runs = route_runs rows f route found in
      subst (λ (g : Phase). ReportIn b rows g work text r work' text') (sym runs.1)
      (λ path trail is datable. (subst (λ (l : List ℕ). LinksReported b l work text r work' text') (same ∙ runs.2 b path trail) h).report is datable)
