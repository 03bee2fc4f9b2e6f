-- The rules of a chart, from its order, its constraints and its drift bounds.
use Rattle.std.proofs.Common.{◌≡◌, ℕ, ◌+◌, ◌-◌, ◌<◌, ◌≤◌, Bool, ◌||◌, List, length, sym, ap, subst, inl, inr, arith}
use native.Mathlib.Decide.{dec_lt}
use Rattle.bookformat.specs.declared.value.Event.{Event}
use Rattle.bookformat.specs.declared.value.Constraint.{Constraint}
use Rattle.bookformat.specs.Values.{ChartValue, BookValue}
use Rattle.bookformat.specs.Rules.{chart, GoodBook}
use Rattle.paths.specs.Charts.{event_count}
use Rattle.paths.specs.Datings.{drift}
use Rattle.paths.proofs.Full.{working_exists}
use Rattle.paths.proofs.Facts.{ChartFacts, chart_facts}
use Rattle.fullchart.specs.declared.FullChart.{FullChart}
use Rattle.routes.specs.declared.stop.Stop.{Stop}
use Rattle.earliest.specs.Raising.{Raises}
use Rattle.earliest.specs.Demands.{Each, BeforeKept, ConstraintKept, Meetable, DriftKept, ChartKept, Placed}
use Rattle.earliest.proofs.Risen.{weaken, both}

module _ (b : BookValue) (good : GoodBook b) (s : Stop) (room : ℕ) (placed : Placed b s room) where
  abbrev n : ℕ
  n = s.number

  abbrev f : FullChart
  f = s.full

  abbrev first : ℕ
  first = s.first

  abbrev c : ChartValue
  c = chart b n

  facts : ChartFacts b c
  facts = chart_facts b good n

  pub events_inside : first + length c.events ≤ room
  events_inside =
      let least = (good.charts n placed.exists).events_least in
      omega (arith, least, placed.inside, working_exists b c (length c.events - 1) (omega arith))

  -- each chart has an event
  pub first_inside : first < room
  first_inside = omega (arith, events_inside, (good.charts n placed.exists).events_least)

  pub constraints_inside : (k : ℕ) → k < length c.constraints → Meetable room c.constraints first k
  constraints_inside k h = let w = facts.named k h in record {
    first_inside = omega (arith, placed.inside, working_exists b c _ w.0);
    second_inside = omega (arith, placed.inside, working_exists b c _ w.1);
    small = ((good.charts n placed.exists).proper k h).lower_most;
  }

  abbrev count : ℕ
  count = length f.stations.items

  count_is : count ≡ event_count b c
  count_is = ap length placed.full.stations

  pub stations_inside : first + count ≤ room
  stations_inside = omega (arith, placed.inside, count_is)

  module _ (z : ℕ → ℕ) where
    abbrev Parts : Type 0
    Parts =
        (Each (length c.events) (λ e. Each (length c.events) (BeforeKept c.events first e)) z × Each (length c.constraints) (ConstraintKept c.constraints first) z)
        × Each count (λ e. Each count (DriftKept b f.working first e)) z

    near_enough : Parts → (e g : ℕ) → e < event_count b c → g < event_count b c → z (first + e) ≤ z (first + g) + drift b c e g
    near_enough p e g he hg = subst (λ w. DriftKept b w first e g z) placed.full.working (p.1 e (omega (arith, count_is)) g (omega (arith, count_is)))

    -- two events are both working ones, or one is silent
    apart : ChartKept b c first z → (e g : ℕ) → e < event_count b c → g < event_count b c → z (first + e) ≤ z (first + g) + drift b c e g
    apart k e g he hg = elim (dec_lt e (length c.events)) [
      | yes p ↦ elim (dec_lt g (length c.events)) [
        | yes q ↦ k.near e g p q
        | no q ↦ k.far e g (record { first_exists = he; second_exists = hg; silent = inr (omega arith) })
      ]
      | no p ↦ k.far e g (record { first_exists = he; second_exists = hg; silent = inl (omega arith) })
    ]

    parts_asked : ChartKept b c first z → Parts
    parts_asked k = (
      (λ e he g hg q. k.order e g q, k.constraints),
      λ e he g hg. subst (λ w. DriftKept b w first e g z) (sym placed.full.working) (apart k e g (omega (arith, count_is)) (omega (arith, count_is))),
    )

    parts_kept : Parts → ChartKept b c first z
    parts_kept p = record {
      order = λ e g q. let r = facts.order e g q in p.0.0 e r.0 g r.1 q;
      constraints = p.0.1;
      near = λ e g he hg. near_enough p e g (working_exists b c e he) (working_exists b c g hg);
      far = λ e g s. near_enough p e g s.first_exists s.second_exists;
    }

  pub chart_met : {i j k l : List ℕ} {x y z : Bool} (es : List Event) (cs : List Constraint) → es ≡ c.events → cs ≡ c.constraints → Raises (Each (length es) (λ e. Each (length es) (BeforeKept es first e))) i j x → Raises (Each (length cs) (ConstraintKept cs first)) j k y → Raises (Each count (λ e. Each count (DriftKept b f.working first e))) k l z → Raises (ChartKept b c first) i l ((x || y) || z)
  chart_met {i} {j} {k} {l} {x} {y} {z} es cs p q u v w = weaken parts_asked parts_kept (both (both
      (subst (λ (es : List Event). Raises (Each (length es) (λ e. Each (length es) (BeforeKept es first e))) i j x) p u)
      (subst (λ (cs : List Constraint). Raises (Each (length cs) (ConstraintKept cs first)) j k y) q v)) w)
