-- The chart with a number: what its dates are, and what all tests together decide.
use Rattle.std.proofs.Common.{◌≡◌, ℕ, ◌+◌, ◌-◌, ◌<◌, ◌≤◌, Bool, List, length, Decides, sym, ap, ◌∙◌, subst, ap₂, inl, inr, arith}
use native.Mathlib.Decide.{dec_lt}
use Rattle.std.proofs.lemmas.Bool.Decides.{Decides-like}
use Rattle.bookformat.specs.declared.value.Event.{Event}
use Rattle.bookformat.specs.declared.value.Constraint.{Constraint}
use Rattle.bookformat.specs.Values.{ChartValue, BookValue}
use Rattle.bookformat.specs.Rules.{chart, GoodChart, GoodBook}
use Rattle.paths.specs.Charts.{Working, event_count}
use Rattle.paths.specs.Datings.{drift, KeepsChart}
use Rattle.paths.proofs.Full.{working_exists}
use Rattle.paths.proofs.Facts.{ChartFacts, chart_facts}
use Rattle.fullchart.specs.declared.FullChart.{FullChart}
use Rattle.fullchart.specs.Finds.{IsFull}
use Rattle.rules.specs.Checks.{date, AllPairs, InDrift, NamesDated, Covered, Passes}

-- a chart as its slices hold it
sliced : (v : ChartValue) (es : List Event) (cs : List Constraint) → es ≡ v.events → cs ≡ v.constraints → ◌≡◌ {A = ChartValue} (record { events = es; constraints = cs; final = v.final }) v
sliced v es cs p q = ap₂ (λ (x : List Event) (y : List Constraint). record { events = x; constraints = y; final = v.final }) p q

module _ (b : BookValue) (good : GoodBook b) (n : ℕ) (exists : n < length b.charts) (f : FullChart) (dates : List ℕ) (full : IsFull b (chart b n) f) (each : length dates ≡ length f.stations.items) (v : ChartValue) (numbered : v ≡ chart b n) (es : List Event) (cs : List Constraint) (events_are : es ≡ v.events) (constraints_are : cs ≡ v.constraints) where
  c : ChartValue
  c = record { events = es; constraints = cs; final = v.final }

  is : c ≡ chart b n
  unfolding c
  is = sliced v es cs events_are constraints_are ∙ numbered

  facts : ChartFacts b c
  facts = subst (ChartFacts b) (sym is) (chart_facts b good n)

  rules : GoodChart b.stations c
  rules = subst (GoodChart b.stations) (sym is) (good.charts n exists)

  count : length dates ≡ event_count b c
  count = each ∙ ap length full.stations ∙ ap (event_count b) (sym is)

  working : f.working ≡ length c.events
  working = full.working ∙ ap (λ (x : ChartValue). length x.events) (sym is)

  works : (e : ℕ) → Working c e → e < length dates
  works e w = omega (arith, working_exists b c e w, count)

  names : (k : ℕ) → k < length c.constraints → NamesDated c.constraints dates k
  names k h = let r = facts.named k h in (works _ r.0, works _ r.1)

  pub covered : Covered es cs dates
  unfolding c
  covered = record {
    events = omega (arith, rules.events_least, works (length es - 1) (omega (arith, rules.events_least)));
    named = names;
  }

  near_enough : AllPairs (length dates) (InDrift b f.working dates) → (e g : ℕ) → e < length dates → g < length dates → date dates e ≤ date dates g + drift b c e g
  near_enough all e g he hg = subst (λ w. InDrift b w dates e g) working (all e g he hg)

  all_kept : Passes b es cs f.working dates → KeepsChart b c (date dates)
  unfolding c
  all_kept t = record {
    order = λ e g q. let r = facts.order e g q in t.order e g r.0 r.1 q;
    constraints = t.constraints;
    near = λ e g p q. near_enough t.drift e g (works e p) (works g q);
    far = λ e g p. near_enough t.drift e g (omega (arith, count, p.first_exists)) (omega (arith, count, p.second_exists));
  }

  -- two events are both working ones, or one is silent
  apart : KeepsChart b c (date dates) → (e g : ℕ) → e < length dates → g < length dates → date dates e ≤ date dates g + drift b c e g
  apart k e g he hg = elim (dec_lt e (length c.events)) [
    | yes p ↦ elim (dec_lt g (length c.events)) [
      | yes q ↦ k.near e g p q
      | no q ↦ k.far e g (record { first_exists = omega (arith, count); second_exists = omega (arith, count); silent = inr (omega arith) })
    ]
    | no p ↦ k.far e g (record { first_exists = omega (arith, count); second_exists = omega (arith, count); silent = inl (omega arith) })
  ]

  all_passed : KeepsChart b c (date dates) → Passes b es cs f.working dates
  unfolding c
  all_passed k = record {
    order = λ e g he hg q. k.order e g q;
    constraints = k.constraints;
    drift = λ e g he hg. subst (λ w. InDrift b w dates e g) (sym working) (apart k e g he hg);
  }

  -- so the tests decide the rules
  pub decides_rules : (r : Bool) → Decides r (Passes b es cs f.working dates) → Decides r (KeepsChart b (chart b n) (date dates))
  decides_rules r d =
      subst (λ (x : ChartValue). Decides r (KeepsChart b x (date dates))) is (Decides-like r all_kept all_passed d)
