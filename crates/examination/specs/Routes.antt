-- The links of the path found.
use Rattle.std.specs.Prelude.{◌≡◌, ℕ, List, Ok, Err, Result}
use Rattle.bookformat.specs.declared.fault.Fault.{Fault}
use Rattle.bookformat.specs.declared.fault.Fault.TheVariants as fault
use Rattle.register.specs.declared.row.Row.{Row}
use Rattle.history.specs.declared.phase.Phase.{Phase}
use Rattle.history.specs.declared.phase.Phase.TheVariants.{Idle, Open, Runs, Empty, Spent}
use Rattle.arrayvec.specs.ArrayVec.{ArrayVec}
use Rattle.examination.specs.Chains.{LinksTo}

-- those of the path to row k
abbrev pub RouteTo : List Row → ℕ → Result (ArrayVec ℕ) Fault → Type 0
RouteTo rows k (Ok route) = LinksTo rows k route.items
RouteTo rows k (Err f) = ⊥

-- those of the path to the row where the examination runs, or why there is none
abbrev pub RouteIn : List Row → Phase → Result (ArrayVec ℕ) Fault → Type 0
RouteIn rows Idle r = r ≡ Err fault.Idle
RouteIn rows (Open p l) r = r ≡ Err fault.NotRunning
RouteIn rows (Runs k) r = RouteTo rows k r
RouteIn rows Empty r = r ≡ Err fault.NotRunning
RouteIn rows Spent r = r ≡ Err fault.NotRunning
