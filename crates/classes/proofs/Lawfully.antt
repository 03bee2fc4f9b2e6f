-- The classes of a good book are a lawful system.
use Rattle.std.proofs.Common.{◌≡◌, ℕ, ◌+◌, ◌*◌, ◌/◌, ◌%◌, ◌<◌, ◌≤◌, ◌⊎◌, List, [], ◌∷◌, ◌++◌, map, length, get_or, ℤ, pos, sym, refl, ap, ◌∙◌, subst, inl, inr, arith}
use native.Mathlib.Decide.{dec_lt}
use Rattle.std.specs.List.{range_with_len}
use Rattle.std.proofs.lemmas.List.FromFn.{length-map-range_with_len, get_or-map-range_with_len}
use Rattle.std.proofs.lemmas.List.{ext_get_or}
use Rattle.std.proofs.lemmas.Int.{ints}
use Rattle.std.proofs.lemmas.Bool.{eq-eqb}
use Rattle.bookformat.specs.Values.{BookValue}
use Rattle.bookformat.specs.Rules.{GoodBook}
use Rattle.paths.specs.Paths.{link, last_chart, last_number, Path}
use Rattle.paths.specs.Datings.{Datable}
use Rattle.paths.specs.Profiles.{InClass}
use Rattle.paths.specs.Steps.{Leads, enters, Solution}
use Rattle.paths.proofs.Profiled.{largest_unique, largest_within, largest_like}
use Rattle.paths.proofs.Existing.{profile_exists}
use Rattle.paths.proofs.Compose.{beginning_datable, longer_path, leads_iff}
use Rattle.profile.specs.Ranges.{SmallEntry, InRange}
use Rattle.register.specs.declared.row.Class.{Class}
use Rattle.search.specs.Systems.{Lawful}
use Rattle.classes.specs.Classes.{entry, Tidy, classes, ClassesLaw}
use Rattle.classes.specs.Ranged.{ranged, RangedLaw}

module _ (b : BookValue) (good : GoodBook b) where
  same_class : (s t : Class) → Tidy b s → Tidy b t → s.chart ≡ t.chart → ((p q : ℕ) → p < b.stations → q < b.stations → entry s p q ≡ entry t p q) → s ≡ t
  same_class s t ts tt' ec agree = λ i. record { chart = ec i; profile = record { entries = same i } }
    where
      at : (p q : ℕ) → p < 8 → q < 8 → entry s p q ≡ entry t p q
      at p q hp hq = elim (dec_lt p b.stations) [
        | yes h ↦ elim (dec_lt q b.stations) [
          | yes g ↦ agree p q h g
          | no g ↦ ts.rest p q hp hq (inr (omega arith)) ∙ sym (tt'.rest p q hp hq (inr (omega arith)))
        ]
        | no h ↦ ts.rest p q hp hq (inl (omega arith)) ∙ sym (tt'.rest p q hp hq (inl (omega arith)))
      ]

      same : s.profile.entries ≡ t.profile.entries
      same = ext_get_or (pos 0) s.profile.entries t.profile.entries (ts.sized ∙ sym tt'.sized) (λ i h.
          let e : 8 * (i / 8) + i % 8 ≡ i = omega arith in
          let lt : i < 64 = omega (arith, ts.sized) in
          subst (λ (x : ℕ). get_or s.profile.entries x (pos 0) ≡ get_or t.profile.entries x (pos 0)) e (at (i / 8) (i % 8) (omega arith) (omega arith)))

  -- the entries of a profile in their places, and 0 elsewhere
  known : (P : ℕ → ℕ → ℤ) (p q : ℕ) → ℤ
  known P p q = elim (dec_lt p b.stations) [ yes h ↦ elim (dec_lt q b.stations) [ yes g ↦ P p q | no g ↦ pos 0 ] | no h ↦ pos 0 ]

  known_in : (P : ℕ → ℕ → ℤ) (p q : ℕ) → p < b.stations → q < b.stations → known P p q ≡ P p q
  unfolding known
  known_in P p q hp hq = go (dec_lt p b.stations) (dec_lt q b.stations)
    where
      go : (c : Dec (p < b.stations)) (d : Dec (q < b.stations)) → elim c [ yes h ↦ elim d [ yes g ↦ P p q | no g ↦ pos 0 ] | no h ↦ pos 0 ] ≡ P p q
      go (yes c) (yes d) = refl
      go (yes c) (no d) = absurd (d hq)
      go (no c) d = absurd (c hp)

  known_out : (P : ℕ → ℕ → ℤ) (p q : ℕ) → (b.stations ≤ p) ⊎ (b.stations ≤ q) → known P p q ≡ pos 0
  unfolding known
  known_out P p q out = go (dec_lt p b.stations) (dec_lt q b.stations) out
    where
      go : (c : Dec (p < b.stations)) (d : Dec (q < b.stations)) → (b.stations ≤ p) ⊎ (b.stations ≤ q) → elim c [ yes h ↦ elim d [ yes g ↦ P p q | no g ↦ pos 0 ] | no h ↦ pos 0 ] ≡ pos 0
      go (yes c) (yes d) (inl o) = absurd (omega arith)
      go (yes c) (yes d) (inr o) = absurd (omega arith)
      go (yes c) (no d) o = refl
      go (no c) d o = refl

  abbrev class_of : ℕ → (ℕ → ℕ → ℤ) → Class
  class_of c P = record { chart = c; profile = record { entries = map (λ (i : ℕ). known P (i / 8) (i % 8)) (range_with_len 0 64) } }

  entry_of : (c : ℕ) (P : ℕ → ℕ → ℤ) (p q : ℕ) → p < 8 → q < 8 → entry (class_of c P) p q ≡ known P p q
  entry_of c P p q hp hq =
      let i : ℕ = 8 * p + q in
      let u : (8 * p + q) / 8 ≡ p = omega arith in
      let v : (8 * p + q) % 8 ≡ q = omega arith in
      get_or-map-range_with_len (λ (i : ℕ). known P (i / 8) (i % 8)) 0 64 (8 * p + q) (8 * p + q) (pos 0) (omega arith) (omega arith)
      ∙ ap (λ (x : ℕ). known P x ((8 * p + q) % 8)) u ∙ ap (known P p) v

  tidy_of : (c : ℕ) (P : ℕ → ℕ → ℤ) → Tidy b (class_of c P)
  tidy_of c P = record {
    sized = length-map-range_with_len (λ (i : ℕ). known P (i / 8) (i % 8)) 0 64;
    rest = λ p q hp hq out. entry_of c P p q hp hq ∙ known_out P p q out;
  }

  -- each datable path has a class
  pub in_some_class : (path : List ℕ) → Path b path → Datable b path → (s : Class) × (classes b).In path s
  in_some_class path is_path datable =
      let e = profile_exists b good path datable in
      let s : Class = class_of (last_number b path) e.0 in
      let at : (p q : ℕ) → p < b.stations → q < b.stations → e.0 p q ≡ entry (class_of (last_number b path) e.0) p q = λ p q hp hq.
      sym (entry_of (last_number b path) e.0 p q (omega (arith, good.stations_most)) (omega (arith, good.stations_most)) ∙ known_in e.0 p q hp hq) in (
        s,
        (
          tidy_of (last_number b path) e.0,
          record {
            is_path = is_path;
            datable = datable;
            ends = refl;
            profile = largest_like b (last_chart b path) (Datable b path) (λ x. x.0 (length path)) e.0 (entry (class_of (last_number b path) e.0)) at e.1;
          },
        ),
      )

  -- the entries of a datable path's class are within far, or 0
  pub in_range : (path : List ℕ) (s : Class) → (classes b).In path s → InRange s.profile.entries
  in_range path s (tidy, i) k h =
      let e : 8 * (k / 8) + k % 8 ≡ k = omega arith in
      subst (λ (x : ℕ). SmallEntry (get_or s.profile.entries x (pos 0))) e (small (k / 8) (k % 8) (omega arith) (omega arith))
    where
      far : (p q : ℕ) → p < b.stations → q < b.stations → SmallEntry (entry s p q)
      far p q hp hq =
          let w = largest_within b (last_chart b path) (Datable b path) (λ x. x.0 (length path)) good (λ x. x.1.charts (length path) (omega arith)) (entry s) i.profile p q hp hq in
          (omega (arith, ints, w.most, good.far_most), omega (arith, ints, w.least, good.far_most))

      zeroed : (p q : ℕ) → p < 8 → q < 8 → (b.stations ≤ p) ⊎ (b.stations ≤ q) → SmallEntry (entry s p q)
      zeroed p q hp hq out = subst SmallEntry (sym (tidy.rest p q hp hq out)) (record { le = tt }, record { le = tt })

      small : (p q : ℕ) → p < 8 → q < 8 → SmallEntry (entry s p q)
      small p q hp hq = elim (dec_lt p b.stations) [
        | yes h ↦ elim (dec_lt q b.stations) [ yes g ↦ far p q h g | no g ↦ zeroed p q hp hq (inr (omega arith)) ]
        | no h ↦ zeroed p q hp hq (inl (omega arith))
      ]

  lawful : Lawful (classes b)
  lawful = record {
    one_start = λ s t i j. same_class s t i.0 j.0 (sym i.1.ends ∙ j.1.ends) (λ p q hp hq. unique [] s t i j p q hp hq);
    one_way = λ s t u l g h. same_class t u g.0 h.0 (sym g.1.chart ∙ h.1.chart)
        (λ p q hp hq. largest_unique b (enters b (link b l)) (Solution b (link b l) (entry s)) (λ x. x.1) (entry t) (entry u) g.1.profile h.1.profile p q hp hq);
    numbered = λ s t l g. g.1.goes.exists;
    begun = λ s t l g. eq-eqb (link b l).from s.chart g.1.goes.begins;
    onward = λ path s t l i g. (g.0, (leads_iff b good path s.chart (entry s) i.1 l t.chart (entry t)).0 g.1);
    back = λ path t l i. back path t l i.0 i.1;
  }
    where
      unique : (path : List ℕ) (s t : Class) → Tidy b s × InClass b path s.chart (entry s) → Tidy b t × InClass b path t.chart (entry t) → (p q : ℕ) → p < b.stations → q < b.stations → entry s p q ≡ entry t p q
      unique path s t i j p q hp hq = largest_unique b (last_chart b path) (Datable b path) (λ x. x.0 (length path)) (entry s) (entry t) i.1.profile j.1.profile p q hp hq

      back : (path : List ℕ) (t : Class) (l : ℕ) → Tidy b t → InClass b (path ++ l ∷ []) t.chart (entry t) → (s : Class) × (Tidy b s × InClass b path s.chart (entry s)) × (Tidy b t × Leads b s.chart (entry s) l t.chart (entry t))
      back path t l tidy i =
          let (s, j) = in_some_class path ((longer_path b path l).0 i.is_path).0 (beginning_datable b path l i.datable) in
          (s, j, (tidy, (leads_iff b good path s.chart (entry s) j.1 l t.chart (entry t)).1 i))

  ranged_lawful : Lawful (ranged b)
  ranged_lawful = record {
    one_start = lawful.one_start;
    one_way = λ s t u l g h. lawful.one_way s t u l g.1 h.1;
    numbered = λ s t l g. lawful.numbered s t l g.1;
    begun = λ s t l g. lawful.begun s t l g.1;
    onward = λ path s t l i g. lawful.onward path s t l i g.1;
    back = λ path t l i. let (s, j, g) = lawful.back path t l i in (s, j, (in_range path s j, g));
  }

pub classes_law : ClassesLaw
classes_law = lawful

pub ranged_law : RangedLaw
ranged_law = ranged_lawful
