-- The tables of a chart alone and of a step decide their datings.
use Rattle.std.proofs.Common.{◌≡◌, ℕ, ◌+◌, ◌↔◌, List, ℤ, Some, None, Option, sym, ap, ◌∙◌, subst, subst₂, arith}
use mathlib.Core.Path.{fun_ext}
use native.Mathlib.Decide.{dec_lt}
use Rattle.bookformat.specs.declared.value.Link.{Link}
use Rattle.bookformat.specs.Values.{ChartValue, BookValue}
use Rattle.bookformat.specs.Rules.{GoodBook}
use Rattle.fullchart.specs.Finds.{FirstOn}
use Rattle.paths.specs.Charts.{event_stations, event_count, First}
use Rattle.paths.specs.Datings.{KeepsChart}
use Rattle.paths.specs.Steps.{enters, Step, Solution}
use Rattle.paths.specs.Tables.{Says, step_places, TableDecides}
use Rattle.paths.proofs.Facts.{ChartFacts}
use Rattle.paths.proofs.Tabled.{chart_decides, step_decides}
use Rattle.steps.specs.declared.bounds.Bounds.{Bounds}
use Rattle.steps.specs.Fillings.{places, table, Blank, Adds}
use Rattle.steps.specs.Parts.{ProfileKept, CrossingsKept}
use Rattle.steps.specs.Readings.{ClosedRead}
use Rattle.steps.specs.Answers.{ChartAnswer, StepAnswer}
use Rattle.steps.proofs.Filled.{adds_then}
use Rattle.steps.proofs.Charted.{says, no_solution, profile}

-- A chart alone

from_0 : (e : ℕ) → 0 + e ≡ e
from_0 e = omega arith

alone : (b : BookValue) (c : ChartValue) (z : ℕ → ℕ) → KeepsChart b c (λ e. z (0 + e)) ↔ KeepsChart b c z
alone b c z = (subst (KeepsChart b c) (fun_ext (λ e. ap z (from_0 e))), subst (KeepsChart b c) (fun_ext (λ e. ap z (sym (from_0 e)))))

module _ {b : BookValue} (good : GoodBook b) {c : ChartValue} {s t : Bounds} (all : places t ≡ event_count b c) (blank : Blank s) (adds : Adds s t (λ z. KeepsChart b c (λ e. z (0 + e)))) where
  pub chart_table : TableDecides b c ((d : ℕ → ℕ) × KeepsChart b c d) (λ s. s.0) (places t) 0 (table t)
  chart_table =
      let said = says s t (λ z. KeepsChart b c (λ e. z (0 + e))) (KeepsChart b c) blank adds (alone b c) in
      subst (λ k. TableDecides b c ((d : ℕ → ℕ) × KeepsChart b c d) (λ s. s.0) k 0 (table t)) (sym all) (chart_decides b good c (table t) (subst (λ k. Says k (KeepsChart b c) (table t)) all said))

  pub chart_answer : ChartFacts b c → {events : List ℕ} → events ≡ event_stations b c → (r : Option (List ℤ)) → ClosedRead (places t) (table t) 0 events r → ChartAnswer b c r
  chart_answer facts {events} is None bad = λ d h. no_solution b good c facts events is ((d : ℕ → ℕ) × KeepsChart b c d) (λ s. s.0) (places t) 0 (table t) chart_table bad (d, h)
  chart_answer facts {events} is (Some a) (D, walks, read) = profile b good c facts events is ((d : ℕ → ℕ) × KeepsChart b c d) (λ s. s.0) (places t) 0 (table t) chart_table a D walks read

-- A step

module _ (b : BookValue) (l : Link) (P : ℕ → ℕ → ℤ) {events : List ℕ} (is : events ≡ event_stations b (enters b l)) where
  abbrev Parts : (ℕ → ℕ) → Type 0
  Parts z = (ProfileKept P b.stations z × CrossingsKept l.intervals events b.stations b.stations z) × KeepsChart b (enters b l) (λ e. z (b.stations + e))

  first_on : (p f : ℕ) → First b (enters b l) p f → FirstOn events p (Some f)
  first_on p f h = subst (λ (x : List ℕ). FirstOn x p (Some f)) (sym is) (h.on.exists, h.on.station, λ k lt at. omega (arith, h.first k (record { exists = omega (arith, h.on.exists); station = at })))

  first_of : (p f : ℕ) → FirstOn events p (Some f) → First b (enters b l) p f
  first_of p f one =
      let h = subst (λ (x : List ℕ). FirstOn x p (Some f)) is one in
      record { on = record { exists = h.0; station = h.1 }; first = λ g o. elim (dec_lt g f) [ yes lt ↦ absurd (h.2 g lt o.station) | no ge ↦ omega arith ] }

  whole : (z : ℕ → ℕ) → Parts z ↔ Step b l P z (λ e. z (b.stations + e))
  whole z = (
    λ h. record { profile = λ p q hp hq. h.0.0 p hp q hq; intervals = λ p f hp hf. h.0.1 p hp f (first_on p f hf); chart = h.1 },
    λ h. ((λ p hp q hq. h.profile p q hp hq, λ p hp f hf. h.intervals p f hp (first_of p f hf)), h.chart),
  )

  -- the code's own number of stations and chart
  module _ (good : GoodBook b) {s t u v : Bounds} {stations : ℕ} {c : ChartValue} (same : stations ≡ b.stations) (entered : c ≡ enters b l) (all : places v ≡ b.stations + event_count b c) (blank : Blank s)
      (one : Adds s t (ProfileKept P stations)) (two : Adds t u (CrossingsKept l.intervals events b.stations b.stations)) (three : Adds u v (λ z. KeepsChart b c (λ e. z (stations + e)))) where
    added : Adds s v Parts
    added =
        let one' = subst (λ n. Adds s t (ProfileKept P n)) same one in
        let three' = subst₂ (λ n (d : ChartValue). Adds u v (λ z. KeepsChart b d (λ e. z (n + e)))) same entered three in
        adds_then (adds_then one' two) three'

    places_are : places v ≡ step_places b l
    places_are = all ∙ ap (λ (d : ChartValue). b.stations + event_count b d) entered

    pub step_table : TableDecides b (enters b l) (Solution b l P) (λ t. t.1) (places v) stations (table v)
    step_table =
        let K : (ℕ → ℕ) → Type 0 = λ z. Step b l P z (λ e. z (b.stations + e)) in
        let said = says s v Parts K blank added whole in
        subst₂ (λ i j. TableDecides b (enters b l) (Solution b l P) (λ t. t.1) i j (table v)) (sym places_are) (sym same) (step_decides b good l P (table v) (subst (λ i. Says i K (table v)) places_are said))

    pub step_answer : ChartFacts b (enters b l) → (r : Option (List ℤ)) → ClosedRead (places v) (table v) stations events r → StepAnswer b l P r
    step_answer facts None bad = no_solution b good (enters b l) facts events is (Solution b l P) (λ t. t.1) (places v) stations (table v) step_table bad
    step_answer facts (Some a) (D, walks, read) = profile b good (enters b l) facts events is (Solution b l P) (λ t. t.1) (places v) stations (table v) step_table a D walks read
