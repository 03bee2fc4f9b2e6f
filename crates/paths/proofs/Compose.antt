-- Whether a path goes on by a link, and with which profile, depends on its profile, the link and the chart entered alone.
use Rattle.std.proofs.Common.{◌≡◌, ℕ, zero, suc, ◌+◌, ◌<◌, ◌≤◌, ◌↔◌, List, [], ◌∷◌, ◌++◌, length, get_or, ℤ, ◌≤ℤ◌, sym, refl, ap, ◌∙◌, subst, subst₂, ⊎_elim, le_of_suc-le-suc, eq-or-lt_of_le, arith}
use native.Mathlib.Decide.{dec_le}
use Rattle.std.proofs.lemmas.List.{length_push, get_or_push, get_or_append_left}
use Rattle.std.proofs.lemmas.Int.{ints}
use Rattle.bookformat.specs.Values.{ChartValue, BookValue}
use Rattle.bookformat.specs.Rules.{chart, GoodBook}
use Rattle.paths.specs.Charts.{Last}
use Rattle.paths.specs.Paths.{link, link_at, chart_number, chart_at, last_number, last_chart, Path}
use Rattle.paths.specs.Datings.{Within, interval, KeepsChart, KeepsLink, Dating, Datable}
use Rattle.paths.specs.Profiles.{difference, Lasts, Profile, ChartProfile, InClass, SameClass}
use Rattle.paths.specs.Steps.{enters, Step, Solution, StepProfile, Goes, Leads}
use Rattle.paths.proofs.Finite.{choose}
use Rattle.paths.proofs.Full.{last_event, one_last}
use Rattle.paths.proofs.Levels.{within_moved, chart_level, dates, path_level}
use Rattle.paths.proofs.Exact.{exact}

-- A path and one more link

module _ (b : BookValue) (path : List ℕ) (l : ℕ) where
  abbrev n : ℕ
  n = length path

  abbrev path⁺ : List ℕ
  path⁺ = path ++ l ∷ []

  longer : length path⁺ ≡ suc n
  longer = omega (arith, length_push path l)

  old_link : (k : ℕ) → k < n → get_or path⁺ k 0 ≡ get_or path k 0
  old_link k h = get_or_append_left path (l ∷ []) 0 k h

  new_link : get_or path⁺ n 0 ≡ l
  new_link = get_or_push path l 0 n refl

  old_number : (k : ℕ) → k ≤ n → chart_number b path⁺ k ≡ chart_number b path k
  old_number zero h = refl
  old_number (suc k) h = ap (λ (q : ℕ). (link b q).to) (old_link k h)

  new_number : chart_number b path⁺ (suc n) ≡ (link b l).to
  new_number = ap (λ (q : ℕ). (link b q).to) new_link

  pub last_number_lem : last_number b path⁺ ≡ (link b l).to
  last_number_lem = ap (chart_number b path⁺) longer ∙ new_number

  abbrev Crosses : (ℕ → ℕ) → (ℕ → ℕ) → Type 0
  Crosses = KeepsLink b (link b l) (last_chart b path) (enters b (link b l))

  -- a dating of the longer path: one of the path, the link's rule, and the rules of the chart that it enters
  record Longer (d : ℕ → ℕ → ℕ) : Type 0 where
    before : Dating b path d
    crosses : Crosses (d n) (d (suc n))
    chart : KeepsChart b (enters b (link b l)) (d (suc n))

  -- the rule of link number m, from chart number s
  abbrev Linked : (ℕ → ℕ) → (ℕ → ℕ) → ℕ → ℕ → Type 0
  Linked d d' m s = KeepsLink b (link b m) (chart b s) (chart b (link b m).to) d d'

  apart : (d : ℕ → ℕ → ℕ) → Dating b path⁺ d → Longer d
  apart d h = record {
    before = record {
      charts = λ k q. subst (λ (s : ℕ). KeepsChart b (chart b s) (d k)) (old_number k q) (h.charts k (omega (arith, longer)));
      links = λ k q. subst₂ (Linked (d k) (d (suc k))) (old_link k q) (old_number k (omega arith)) (h.links k (omega (arith, longer)));
    };
    crosses = subst₂ (Linked (d n) (d (suc n))) new_link (old_number n (omega arith)) (h.links n (omega (arith, longer)));
    chart = subst (λ (s : ℕ). KeepsChart b (chart b s) (d (suc n))) new_number (h.charts (suc n) (omega (arith, longer)));
  }

  together : (d : ℕ → ℕ → ℕ) → Longer d → Dating b path⁺ d
  together d g = record {
    charts = λ k q. ⊎_elim
        (λ e. subst (λ (s : ℕ). KeepsChart b (chart_at b path⁺ s) (d s)) (sym e) (subst (λ (s : ℕ). KeepsChart b (chart b s) (d (suc n))) (sym new_number) g.chart))
        (λ h. subst (λ (s : ℕ). KeepsChart b (chart b s) (d k)) (sym (old_number k (le_of_suc-le-suc h))) (g.before.charts k (le_of_suc-le-suc h)))
        (eq-or-lt_of_le (omega (arith, longer)));
    links = λ k q. ⊎_elim
        (λ e. subst (λ (s : ℕ). KeepsLink b (link_at b path⁺ s) (chart_at b path⁺ s) (chart_at b path⁺ (suc s)) (d s) (d (suc s))) (sym e) (subst₂ (Linked (d n) (d (suc n))) (sym new_link) (sym (old_number n (omega arith))) g.crosses))
        (λ h. subst₂ (Linked (d k) (d (suc k))) (sym (old_link k h)) (sym (old_number k (omega arith))) (g.before.links k h))
        (eq-or-lt_of_le (omega (arith, longer)));
  }

  pub beginning_datable : Datable b path⁺ → Datable b path
  beginning_datable h = (h.0, (apart h.0 h.1).before)

  pub longer_path : Path b path⁺ ↔ (Path b path × (l < length b.links) × ((link b l).from ≡ last_number b path))
  longer_path = (
    λ h. (
      record {
        exists = λ k q. subst (λ (m : ℕ). m < length b.links) (old_link k q) (h.exists k (omega (arith, longer)));
        begins = λ k q. subst₂ (λ (m s : ℕ). (link b m).from ≡ s) (old_link k q) (old_number k (omega arith)) (h.begins k (omega (arith, longer)));
      },
      subst (λ (m : ℕ). m < length b.links) new_link (h.exists n (omega (arith, longer))),
      subst₂ (λ (m s : ℕ). (link b m).from ≡ s) new_link (old_number n (omega arith)) (h.begins n (omega (arith, longer))),
    ),
    λ h. record {
      exists = λ k q. ⊎_elim
          (λ r. subst (λ (m : ℕ). get_or path⁺ m 0 < length b.links) (sym r) (subst (λ (m : ℕ). m < length b.links) (sym new_link) h.1))
          (λ r. subst (λ (m : ℕ). m < length b.links) (sym (old_link k r)) (h.0.exists k r))
          (eq-or-lt_of_le (omega (arith, longer)));
      begins = λ k q. ⊎_elim
          (λ r. subst (λ (m : ℕ). (link_at b path⁺ m).from ≡ chart_number b path⁺ m) (sym r) (subst₂ (λ (m s : ℕ). (link b m).from ≡ s) (sym new_link) (sym (old_number n (omega arith))) h.2))
          (λ r. subst₂ (λ (m s : ℕ). (link b m).from ≡ s) (sym (old_link k r)) (sym (old_number k (omega arith))) (h.0.begins k r))
          (eq-or-lt_of_le (omega (arith, longer)));
    },
  )

-- one row of dates up to position n, another after it
pick : {k n : ℕ} → Dec (k ≤ n) → (ℕ → ℕ) → (ℕ → ℕ) → ℕ → ℕ
pick (yes h) f g = f
pick (no h) f g = g

pick_yes : {k n : ℕ} (c : Dec (k ≤ n)) (f g : ℕ → ℕ) → k ≤ n → f ≡ pick c f g
unfolding pick
pick_yes (yes h) f g l = refl
pick_yes (no h) f g l = absurd (h l)

pick_no : {k n : ℕ} (c : Dec (k ≤ n)) (f g : ℕ → ℕ) → ¬ (k ≤ n) → g ≡ pick c f g
unfolding pick
pick_no (yes h) f g l = absurd (l h)
pick_no (no h) f g l = refl

-- Steps

module _ (b : BookValue) (good : GoodBook b) (path : List ℕ) (P : ℕ → ℕ → ℤ) (profile : Profile b path P) (l : ℕ) where
  abbrev c : ChartValue
  c = enters b (link b l)

  -- the stations' last events on the path
  lasts : (f : ℕ → ℕ) × ((p : ℕ) → p < b.stations → Last b (last_chart b path) p (f p))
  lasts = choose b.stations (Last b (last_chart b path)) (last_event b (last_chart b path))

  last : ℕ → ℕ
  last = lasts.0

  is_last : (p : ℕ) → p < b.stations → Last b (last_chart b path) p (last p)
  unfolding last
  is_last = lasts.1

  both_last : (p q : ℕ) → p < b.stations → q < b.stations → Lasts b (last_chart b path) p q (last p) (last q)
  both_last p q hp hq = record { p_exists = hp; q_exists = hq; p_last = is_last p hp; q_last = is_last q hq }

  -- a dating of the longer path solves the step
  solves : (d : ℕ → ℕ → ℕ) → Dating b (path ++ l ∷ []) d → Step b (link b l) P (λ p. d (length path) (last p)) (d (suc (length path)))
  solves d h =
      let g = apart b path l d h in
      record {
        profile = λ p q hp hq. profile.bounds p q (last p) (last q) (both_last p q hp hq) (d, g.before);
        intervals = λ p f hp hf. g.crosses.intervals p (last p) f hp (is_last p hp) hf;
        chart = g.chart;
      }

  -- and each solution of the step is, moved by a constant, the end of a dating of the longer path
  module _ (y x : ℕ → ℕ) (step : Step b (link b l) P y x) where
    ends : (m₀ : ℕ) × ((m : ℕ) → m₀ ≤ m → (z : ℕ × ℕ → ℕ) × Dating b path (dates z) × ((p : ℕ) → p < b.stations → z (length path, last p) ≡ y p + m))
    ends = exact (λ z. Dating b path (dates z)) (path_level b path) (λ p. (length path, last p)) b.stations P
        (λ p q hp hq. let r = profile.reached p q (last p) (last q) (both_last p q hp hq) in (λ i. r.0.0 i.0 i.1, r.0.1, r.1))
        y step.profile (omega (arith, good.stations_least))

    module _ (m : ℕ) (z : ℕ × ℕ → ℕ) (before : Dating b path (dates z)) (meets : (p : ℕ) → p < b.stations → z (length path, last p) ≡ y p + m) where
      both : ℕ → ℕ → ℕ
      both k = pick (dec_le k (length path)) (dates z k) (λ e. x e + m)

      on : (k : ℕ) → k ≤ length path → dates z k ≡ both k
      unfolding both
      on k h = pick_yes (dec_le k (length path)) (dates z k) (λ e. x e + m) h

      new : (λ e. x e + m) ≡ both (suc (length path))
      unfolding both
      new = pick_no (dec_le (suc (length path)) (length path)) (dates z (suc (length path))) (λ e. x e + m) (omega arith)

      crossing : Crosses b path l (dates z (length path)) (λ e. x e + m)
      crossing = record {
        intervals = λ p e f hp he hf.
            let same : e ≡ last p = one_last b (last_chart b path) p e (last p) he (is_last p hp) in
            let meet : z (length path, e) ≡ y p + m = ap (λ (q : ℕ). z (length path, q)) same ∙ meets p hp in
            subst (λ (q : ℕ). Within (interval (link b l) p) q (x f + m)) (sym meet) (within_moved (interval (link b l) p) (y p) (x f) m (step.intervals p f hp hf));
      }

      joined : Longer b path l both
      joined = record {
        before = record {
          charts = λ k q. subst (KeepsChart b (chart_at b path k)) (on k q) (before.charts k q);
          links = λ k q. subst₂ (KeepsLink b (link_at b path k) (chart_at b path k) (chart_at b path (suc k))) (on k (omega arith)) (on (suc k) q) (before.links k q);
        };
        crosses = subst₂ (Crosses b path l) (on (length path) (omega arith)) new crossing;
        chart = subst (KeepsChart b c) new ((chart_level b c).moved x m step.chart);
      }

    dated : (d : ℕ → ℕ → ℕ) × Dating b (path ++ l ∷ []) d × (m : ℕ) × ((e : ℕ) → d (suc (length path)) e ≡ x e + m)
    dated =
        let m : ℕ = ends.0 in
        let r = ends.1 m (omega arith) in
        (both m r.0 r.1 r.2, together b path l (both m r.0 r.1 r.2) (joined m r.0 r.1 r.2), m, λ e. sym (ap (λ (f : ℕ → ℕ). f e) (new m r.0 r.1 r.2)))

  -- the path goes on by the link exactly if the step has a solution
  pub datable_iff : Datable b (path ++ l ∷ []) ↔ Solution b (link b l) P
  datable_iff = (λ h. (λ p. h.0 (length path) (last p), h.0 (suc (length path)), solves h.0 h.1), λ s. let r = dated s.0 s.1 s.2 in (r.0, r.1))

  lasts_to : (p q e f : ℕ) → Lasts b (last_chart b (path ++ l ∷ [])) p q e f → Lasts b c p q e f
  lasts_to p q e f h = subst (λ (s : ℕ). Lasts b (chart b s) p q e f) (last_number_lem b path l) h

  lasts_from : (p q e f : ℕ) → Lasts b c p q e f → Lasts b (last_chart b (path ++ l ∷ [])) p q e f
  lasts_from p q e f h = subst (λ (s : ℕ). Lasts b (chart b s) p q e f) (sym (last_number_lem b path l)) h

  -- the two ways to write a difference at the end
  at_end : (d : ℕ → ℕ → ℕ) (e f : ℕ) → difference (d (length (path ++ l ∷ [])) e) (d (length (path ++ l ∷ [])) f) ≡ difference (d (suc (length path)) e) (d (suc (length path)) f)
  at_end d e f = ap (λ (k : ℕ). difference (d k e) (d k f)) (longer b path l)

  -- a solution's differences are those of its dating
  same_difference : (x : ℕ → ℕ) (m : ℕ) (d : ℕ → ℕ) → ((e : ℕ) → d e ≡ x e + m) → (e f : ℕ) → difference (d e) (d f) ≡ difference (x e) (x f)
  same_difference x m d h e f = omega (arith, ints, h e, h f)

  -- the longer path has the profile that the step's solutions have
  pub profile_iff : (Q : ℕ → ℕ → ℤ) → Profile b (path ++ l ∷ []) Q ↔ StepProfile b (link b l) P Q
  profile_iff Q = (
    λ s. record {
      bounds = λ p q e f i z.
          let t = dated z.0 z.1 z.2 in
          subst (λ (v : ℤ). v ≤ℤ Q p q) (at_end t.0 e f ∙ same_difference z.1 t.2 (t.0 (suc (length path))) t.3 e f) (s.bounds p q e f (lasts_from p q e f i) (t.0, t.1));
      reached = λ p q e f i.
          let r = s.reached p q e f (lasts_from p q e f i) in
          ((λ k. r.0.0 (length path) (last k), r.0.0 (suc (length path)), solves r.0.0 r.0.1), sym (at_end r.0.0 e f) ∙ r.1);
    },
    λ s. record {
      bounds = λ p q e f i d. rw (at_end d.0 e f) (s.bounds p q e f (lasts_to p q e f i) (λ r. d.0 (length path) (last r), d.0 (suc (length path)), solves d.0 d.1));
      reached = λ p q e f i.
          let r = s.reached p q e f (lasts_to p q e f i) in
          let t = dated r.0.0 r.0.1 r.0.2 in
          ((t.0, t.1), at_end t.0 e f ∙ same_difference r.0.1 t.2 (t.0 (suc (length path))) t.3 e f ∙ r.1);
    },
  )

-- Classes

module _ (b : BookValue) (good : GoodBook b) (path : List ℕ) (c : ℕ) (P : ℕ → ℕ → ℤ) (class : InClass b path c P) (l : ℕ) where
  goes_to : Goes b c P l → Path b (path ++ l ∷ []) × Datable b (path ++ l ∷ [])
  goes_to g = ((longer_path b path l).1 (class.is_path, g.exists, g.begins ∙ sym class.ends), (datable_iff b good path P class.profile l).1 g.solution)

  goes_from : Path b (path ++ l ∷ []) × Datable b (path ++ l ∷ []) → Goes b c P l
  goes_from h =
      let r = (longer_path b path l).0 h.0 in
      record { exists = r.1; begins = r.2 ∙ class.ends; solution = (datable_iff b good path P class.profile l).0 h.1 }

  pub goes_iff : Goes b c P l ↔ (Path b (path ++ l ∷ []) × Datable b (path ++ l ∷ []))
  goes_iff = (goes_to, goes_from)

  pub leads_iff : (c' : ℕ) (Q : ℕ → ℕ → ℤ) → Leads b c P l c' Q ↔ InClass b (path ++ l ∷ []) c' Q
  leads_iff c' Q = (
    λ h.
        let r = goes_to h.goes in
        record { is_path = r.0; datable = r.1; ends = last_number_lem b path l ∙ h.chart; profile = (profile_iff b good path P class.profile l Q).1 h.profile },
    λ h. record { goes = goes_from (h.is_path, h.datable); chart = sym (last_number_lem b path l) ∙ h.ends; profile = (profile_iff b good path P class.profile l Q).0 h.profile },
  )

-- two paths of one class have the same extensions
module _ (b : BookValue) (good : GoodBook b) (path other : List ℕ) (same : SameClass b path other) (l : ℕ) where
  abbrev P₀ : ℕ → ℕ → ℤ
  P₀ = same.same_profile.0

  pub same_datable : Datable b (path ++ l ∷ []) ↔ Datable b (other ++ l ∷ [])
  same_datable =
      let f = datable_iff b good path P₀ same.same_profile.1 l in
      let g = datable_iff b good other P₀ same.same_profile.2 l in
      (λ h. g.1 (f.0 h), λ h. f.1 (g.0 h))

  pub same_profile_on : (Q : ℕ → ℕ → ℤ) → Profile b (path ++ l ∷ []) Q ↔ Profile b (other ++ l ∷ []) Q
  same_profile_on Q =
      let f = profile_iff b good path P₀ same.same_profile.1 l Q in
      let g = profile_iff b good other P₀ same.same_profile.2 l Q in
      (λ h. g.1 (f.0 h), λ h. f.1 (g.0 h))

-- The first chart alone

alone : (b : BookValue) (x : ℕ → ℕ) → KeepsChart b (chart b b.first) x → Dating b [] (λ k. x)
alone b x h = record { charts = λ k l. at k l; links = λ k l. absurd (omega arith) }
  where
    at : (k : ℕ) → k ≤ 0 → KeepsChart b (chart_at b [] k) x
    at zero l = h
    at (suc k) l = absurd (omega arith)

pub first_datable : (b : BookValue) → Datable b [] ↔ ((d : ℕ → ℕ) × KeepsChart b (chart b b.first) d)
first_datable b = (λ h. (h.0 0, h.1.charts 0 (omega arith)), λ h. (λ k. h.0, alone b h.0 h.1))

pub first_profile : (b : BookValue) (P : ℕ → ℕ → ℤ) → Profile b [] P ↔ ChartProfile b (chart b b.first) P
first_profile b P = (
  λ s. record {
    bounds = λ p q e f i z. s.bounds p q e f i (λ k. z.0, alone b z.0 z.1);
    reached = λ p q e f i. let r = s.reached p q e f i in ((r.0.0 0, r.0.1.charts 0 (omega arith)), r.1);
  },
  λ s. record {
    bounds = λ p q e f i d. s.bounds p q e f i (d.0 0, d.1.charts 0 (omega arith));
    reached = λ p q e f i. let r = s.reached p q e f i in ((λ k. r.0.0, alone b r.0.0 r.0.1), r.1);
  },
)
