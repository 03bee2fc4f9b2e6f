-- Looking for the next pair, row after row.
use Rattle.std.proofs.Common.{◌≡◌, ℕ, ◌+◌, ◌-◌, ◌<◌, ◌≤◌, ◌≢◌, List, length, get_or, drop, Some, None, sym, ap, ◌∙◌, inl, inr, ⊎_elim, arith, get_or-take, get_or-drop}
use Rattle.std.specs.List.{slice_range, AllWithin, HoldsAt}
use native.Mathlib.Decide.{dec_lt}
use Rattle.std.proofs.lemmas.Bool.{eq-eqb, eqb-true}
use Rattle.bookformat.specs.declared.value.Link.{Link}
use Rattle.bookformat.specs.Values.{BookValue}
use Rattle.bookformat.specs.Rules.{no_link}
use Rattle.paths.specs.Paths.{link}
use Rattle.register.specs.declared.row.Row.{Row}
use Rattle.register.specs.Meaning.{row_at}
use Rattle.search.specs.Rows.{class_at, Pair, Before}
use Rattle.search.specs.Walks.{Open, Empty}
use Rattle.search.specs.Places.{Found}
use Rattle.classes.specs.Ranged.{ranged}
use Rattle.history.specs.Views.{rows_of}
use Rattle.history.proofs.Seen.{length_rows_of, at_rows_of}
use Rattle.walk.specs.Trying.{FirstFrom}

-- the class of a row in the terms of the walk
pub class_row : (b : BookValue) (rows : List Row) (k : ℕ) → class_at (rows_of b rows) k ≡ (row_at rows k).class
class_row b rows k = ap (λ r. r.class) (at_rows_of b rows k)

-- no pair from row p and link l on is before row q and link m, where the search goes on
abbrev pub Sought : BookValue → List Row → ℕ → ℕ → ℕ → ℕ → Type 0
Sought b rows p l q m = (Before q m p l → ⊥) × ((i j : ℕ) → Pair (ranged b) (rows_of b rows) i j → Before i j q m → Before i j p l)

module _ (b : BookValue) (rows : List Row) where
  abbrev chart_of : ℕ → ℕ
  chart_of q = (row_at rows q).class.chart

  pair_from : (i j : ℕ) → Pair (ranged b) (rows_of b rows) i j → (link b j).from ≡ chart_of i
  pair_from i j h = eqb-true _ _ h.2 ∙ ap (λ c. c.chart) (class_row b rows i)

  pub sought_found : (p l q m n : ℕ) → Sought b rows p l q m → q < length rows → FirstFrom b (chart_of q) m (Some n) → Found (ranged b) (rows_of b rows) p l (Open q n)
  sought_found p l q m n s h f = (
    (omega (arith, length_rows_of b rows), f.1, eq-eqb _ _ (f.2 ∙ ap (λ c. c.chart) (sym (class_row b rows q)))),
    ⊎_elim (λ lt. s.0 (inl lt)) (λ e. s.0 (inr (e.0, let e1 = e.1 in let f0 = f.0 in omega arith))),
    λ i j pair. ⊎_elim (λ lt. s.1 i j pair (inl lt)) (λ e. elim (dec_lt j m) [
      | yes lt ↦ s.1 i j pair (inr (e.0, lt))
      | no ge ↦ absurd (f.3 j (omega arith) e.1 (pair_from i j pair ∙ ap chart_of e.0))
    ]),
  )

  pub sought_more : (p l q m : ℕ) → Sought b rows p l q m → FirstFrom b (chart_of q) m None → Sought b rows p l (q + 1) 0
  sought_more p l q m s f = (
    ⊎_elim (λ lt. s.0 (inl (omega arith))) (λ e. s.0 (inl (let e0 = e.0 in omega arith))),
    λ i j pair. ⊎_elim (λ lt. elim (dec_lt i q) [
      | yes less ↦ s.1 i j pair (inl less)
      | no not ↦
          let same : i ≡ q = omega arith in
          elim (dec_lt j m) [
            | yes less ↦ s.1 i j pair (inr (same, less))
            | no ge ↦ absurd (f j (omega arith) pair.1 (pair_from i j pair ∙ ap chart_of same))
          ]
    ]) (λ e. let e1 = e.1 in absurd (omega arith)),
  )

  pub sought_none : (p l q m : ℕ) → Sought b rows p l q m → length rows ≤ q → Found (ranged b) (rows_of b rows) p l Empty
  sought_none p l q m s h = λ i j pair. s.1 i j pair (inl (let in_rows = pair.0 in omega (arith, length_rows_of b rows)))

-- The first link from a number on, out of those that follow it

module _ (b : BookValue) (links part : List Link) (chart start : ℕ) (are : links ≡ b.links) (is : part ≡ slice_range links start (length links)) (size : length part + start ≡ length links) where
  part_link : (i : ℕ) → i < length part → get_or part i no_link ≡ link b (start + i)
  part_link i h =
      ap (λ (l : List Link). get_or l i no_link) is ∙ get_or-take (length links - start) (drop start links) i no_link (omega arith) ∙ get_or-drop start links i no_link
      ∙ ap (λ (l : List Link). get_or l (start + i) no_link) are

  pub first_found : (i : ℕ) → (i < length part) × HoldsAt (λ (l : Link). l.from ≡ chart) part i × AllWithin (λ (l : Link). l.from ≢ chart) part 0 i → FirstFrom b chart start (Some (start + i))
  first_found i h = (
    omega arith,
    omega (arith, h.0, size, ap length are),
    sym (ap (λ (l : Link). l.from) (part_link i h.0)) ∙ h.1 no_link,
    λ j low high e.
        let back : start + (j - start) ≡ j = omega arith in
        h.2 (j - start) no_link (omega arith) (omega arith) (ap (λ (l : Link). l.from) (part_link (j - start) (omega (arith, h.0)) ∙ ap (link b) back) ∙ e),
  )

  pub first_none : AllWithin (λ (l : Link). l.from ≢ chart) part 0 (length part) → FirstFrom b chart start None
  first_none all = λ j low high e.
      let back : start + (j - start) ≡ j = omega arith in
      let inside : j - start < length part = omega (arith, size, ap length are) in
      all (j - start) no_link (omega arith) inside (ap (λ (l : Link). l.from) (part_link (j - start) inside ∙ ap (link b) back) ∙ e)
