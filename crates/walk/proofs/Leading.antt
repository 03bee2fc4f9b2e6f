-- The classes that profiles tell of: of the first chart alone, and after a link.
use Rattle.std.proofs.Common.{◌≡◌, ℕ, ◌<◌, length, ℤ, Some, None, Option, sym, subst, subst₂, ◌+◌, ◌*◌, arith}
use Rattle.bookformat.specs.Values.{BookValue}
use Rattle.bookformat.specs.Rules.{chart, GoodBook}
use Rattle.paths.specs.Paths.{link, Leaves}
use Rattle.paths.specs.Datings.{KeepsChart}
use Rattle.paths.specs.Profiles.{ChartProfile}
use Rattle.paths.specs.Steps.{Leads}
use Rattle.profile.specs.Ranges.{SmallEntry, InRange}
use Rattle.paths.proofs.Compose.{first_datable, first_profile}
use Rattle.paths.proofs.Full.{last_event}
use Rattle.register.specs.declared.row.Class.{Class}
use Rattle.steps.specs.Answers.{ChartAnswer, StepAnswer}
use Rattle.classes.specs.Classes.{entry}
use Rattle.classes.specs.Ranged.{ranged}
use Rattle.walk.specs.Trying.{Alike, LedTo, Starts}

module _ (b : BookValue) (good : GoodBook b) where
  -- some dating attains the profile of a chart
  attained : (P : ℕ → ℕ → ℤ) → ChartProfile b (chart b b.first) P → (d : ℕ → ℕ) × KeepsChart b (chart b b.first) d
  attained P h =
      let some : 0 < b.stations = omega (arith, good.stations_least) in
      let e = last_event b (chart b b.first) 0 some in
      (h.reached 0 0 e.0 e.0 (record { p_exists = some; q_exists = some; p_last = e.1; q_last = e.1 })).0

  pub starts_some : (s : Class) → s.chart ≡ b.first → length s.profile.entries ≡ 64 → ChartAnswer b (chart b b.first) (Some s.profile.entries) → Starts b (Some s)
  starts_some s e sized h = (
    record { sized = sized; rest = h.1.unused },
    record {
      is_path = record { exists = λ k lt. absurd (omega arith); begins = λ k lt. absurd (omega arith) };
      datable = (first_datable b).1 (attained (entry s) h.0);
      ends = sym e;
      profile = (first_profile b (entry s)).1 h.0;
    },
  )

  pub starts_none : ChartAnswer b (chart b b.first) None → Starts b None
  starts_none h = λ s i. let k = (first_datable b).0 i.1.datable in h k.0 k.1

  -- some solution of a step attains its profile
  pub leads_some : (s t : Class) (l : ℕ) → l < length b.links → (link b l).from ≡ s.chart → t.chart ≡ (link b l).to → length t.profile.entries ≡ 64 → InRange s.profile.entries → StepAnswer b (link b l) (entry s) (Some t.profile.entries) → LedTo b s l (Some t)
  leads_some s t l lt from to sized range h =
      let some : 0 < b.stations = omega (arith, good.stations_least) in
      let e = last_event b (chart b (link b l).to) 0 some in (
        range,
        (
          record { sized = sized; rest = h.1.unused },
          record {
            goes = record { exists = lt; begins = from; solution = (h.0.reached 0 0 e.0 e.0 (record { p_exists = some; q_exists = some; p_last = e.1; q_last = e.1 })).0 };
            chart = sym to;
            profile = h.0;
          },
        ),
      )

  pub leads_none : (s : Class) (l : ℕ) → StepAnswer b (link b l) (entry s) None → LedTo b s l None
  leads_none s l h = λ g. h g.1.1.1.goes.solution

  pub leads_elsewhere : (s : Class) (l : ℕ) → (Leaves b s.chart l → ⊥) → LedTo b s l None
  leads_elsewhere s l h = λ g. h (g.1.1.1.goes.exists, g.1.1.1.goes.begins)

  pub leads_beyond : (s : Class) (l : ℕ) → (InRange s.profile.entries → ⊥) → LedTo b s l None
  leads_beyond s l h = λ g. h g.1.0

  -- Classes that are alike lead to the same

  leads_like : (s t u : Class) (l : ℕ) → Alike s t → (ranged b).leads s l u → (ranged b).leads t l u
  leads_like s t u l a h =
      let one : entry s ≡ entry t = λ i p q. a.entries (8 * p + q) i in (
        λ k lt. subst SmallEntry (a.entries k) (h.0 k lt),
        (h.1.0, subst₂ (λ (c : ℕ) (P : ℕ → ℕ → ℤ). Leads b c P l u.chart (entry u)) a.chart one h.1.1),
      )

  turned : (s t : Class) → Alike s t → Alike t s
  turned s t a = record { chart = sym a.chart; entries = λ k. sym (a.entries k) }

  pub led_like : (s t : Class) (l : ℕ) (r : Option Class) → Alike s t → LedTo b s l r → LedTo b t l r
  led_like s t l None a h = λ g. h (g.0, leads_like t s g.0 l (turned s t a) g.1)
  led_like s t l (Some u) a h = leads_like s t u l a h
