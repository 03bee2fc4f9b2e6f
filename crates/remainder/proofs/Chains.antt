-- Looking along a chain, and chains with one more row.
use Rattle.std.proofs.Common.{◌≡◌, ℕ, ◌+◌, ◌<◌, ◌≤◌, List, [], ◌∷◌, ◌++◌, length, get_or, set, Some, None, Option, sym, refl, ap, ◌∙◌, subst, ⊎_elim, arith}
use mathlib.Core.HLevel.{⊥_prop}
use mathlib.Core.Logic.{∥∥₁_elim, ∥∥₁_map, ∥∥₁_prop}
use native.Mathlib.Bridge.{le_prop}
use Rattle.std.proofs.lemmas.List.{length_push, get_or_append_left, get_or_push, get_or-set_same, get_or-set_other}
use Rattle.std.proofs.lemmas.Bool.{cases_eq, cases_lt, cases_order}
use Rattle.register.specs.declared.row.Class.{Class}
use Rattle.register.specs.declared.row.Row.{Row}
use Rattle.register.specs.Meaning.{no_row, row_at, Absent, FirstAt}
use Rattle.remainder.specs.Chains.{in_chain, chain_at, Links, Chained}

-- how many places are left to look at, from a link on
abbrev pub reach : Option ℕ → ℕ
reach None = 0
reach (Some i) = i + 1

-- A link on the way along the chain of a class: past the row that it names, no row has the class.
abbrev pub Ahead : ℕ → List Row → Class → Option ℕ → Type 0
Ahead n rows class None = Absent rows class
Ahead n rows class (Some i) =
    (i < length rows) × (chain_at n rows i ≡ in_chain n class)
    × ((k : ℕ) → i < k → k < length rows → (row_at rows k).class ≡ class → ⊥)

pub ahead_begin : (n : ℕ) (rows : List Row) (class : Class) (link : Option ℕ) → Links (chain_at n rows) (in_chain n class) (length rows) link → Ahead n rows class link
ahead_begin n rows class None h = λ k l e. h k l (ap (in_chain n) e)
ahead_begin n rows class (Some i) h = (h.0, h.1, λ k m l e. h.2 k m l (ap (in_chain n) e))

-- no place has the class once a row without it is passed, if none before it in its chain has
passed : (n : ℕ) (rows : List Row) (class : Class) (i : ℕ) → Ahead n rows class (Some i) → ((row_at rows i).class ≡ class → ⊥) → (k : ℕ) → k < length rows → (k < i → chain_at n rows k ≡ chain_at n rows i → ⊥) → (row_at rows k).class ≡ class → ⊥
passed n rows class i h differs k l before e =
    ⊎_elim
    (λ same. differs (subst (λ (j : ℕ). (row_at rows j).class ≡ class) same e))
    (⊎_elim (λ less. before less (ap (in_chain n) e ∙ sym h.1)) (λ more. h.2 k more l e))
    (cases_order k i)

pub ahead_next : (n : ℕ) (rows : List Row) (class : Class) (i : ℕ) (link : Option ℕ) → Ahead n rows class (Some i) → ((row_at rows i).class ≡ class → ⊥) → Links (chain_at n rows) (chain_at n rows i) i link → Ahead n rows class link
ahead_next n rows class i None h differs t = λ k l e. passed n rows class i h differs k l (t k) e
ahead_next n rows class i (Some j) h differs t =
    let inside = h.0 in
    let lower = t.0 in
    (omega arith, t.1 ∙ h.1, λ k m l e. passed n rows class i h differs k l (λ b. t.2 k m b) e)

links_below : (at : ℕ → ℕ) (b end : ℕ) (link : Option ℕ) → Links at b end link → reach link ≤ end
links_below at b end None h = omega arith
links_below at b end (Some i) h = let l = h.0 in omega arith

-- The same, from what a register holds of its rows: that they are chained, without how.
module _ (n : ℕ) (rows : List Row) (heads next : List (Option ℕ)) (chained : ∥ Chained n rows heads next ∥₁) (class : Class) where
  pub look_begin : (link : Option ℕ) → in_chain n class < n → link ≡ get_or heads (in_chain n class) None → ∥ Ahead n rows class link ∥₁
  look_begin link l e =
      ∥∥₁_map chained (λ c. subst (Ahead n rows class) (sym e) (ahead_begin n rows class _ (c.begin _ l)))

  pub look_inside : (link : Option ℕ) (i : ℕ) → ∥ Ahead n rows class link ∥₁ → link ≡ Some i → i < length rows
  look_inside link i a e = ∥∥₁_elim a le_prop (λ h. (subst (Ahead n rows class) e h).0)

  pub look_next : (link link' : Option ℕ) (i : ℕ) → ∥ Ahead n rows class link ∥₁ → link ≡ Some i → ((row_at rows i).class ≡ class → ⊥) → link' ≡ get_or next i None → ∥ Ahead n rows class link' ∥₁
  look_next link link' i a e differs f =
      ∥∥₁_elim chained ∥∥₁_prop
      (λ c. ∥∥₁_map a
      (λ h.
      let at : Ahead n rows class (Some i) = subst (Ahead n rows class) e h in
      subst (Ahead n rows class) (sym f) (ahead_next n rows class i _ at differs (c.follow i at.0))))

  pub look_less : (link link' : Option ℕ) (i : ℕ) → ∥ Ahead n rows class link ∥₁ → link ≡ Some i → link' ≡ get_or next i None → reach link' < reach link
  look_less link link' i a e f =
      let here : reach link ≡ i + 1 = ap reach e in
      let below : reach link' ≤ i =
      ∥∥₁_elim chained le_prop
      (λ c. subst (λ (v : Option ℕ). reach v ≤ i) (sym f) (links_below _ _ i _ (c.follow i (look_inside link i a e)))) in
      omega arith

  pub look_ends : (link : Option ℕ) → ∥ Ahead n rows class link ∥₁ → link ≡ None → Absent rows class
  look_ends link a e = λ k l f. ∥∥₁_elim a ⊥_prop (λ h. subst (Ahead n rows class) e h k l f)

  pub look_finds : (i : ℕ) → i < length rows → (row_at rows i).class ≡ class → FirstAt rows class i
  look_finds i l e = (l, e, λ k m f. ∥∥₁_elim chained ⊥_prop (λ c. c.apart k i m l (f ∙ sym e)))

links_same : (at at' : ℕ → ℕ) (b end : ℕ) (link : Option ℕ) → ((k : ℕ) → k < end → at' k ≡ at k) → Links at b end link → Links at' b end link
links_same at at' b end None same h = λ k l e. h k l (sym (same k l) ∙ e)
links_same at at' b end (Some i) same h =
    (h.0, same i h.0 ∙ h.1, λ k m l e. h.2 k m l (sym (same k l) ∙ e))

-- one more place, which is in another chain
links_more : (at : ℕ → ℕ) (b end : ℕ) (link : Option ℕ) → (at end ≡ b → ⊥) → Links at b end link → Links at b (end + 1) link
links_more at b end None other h = λ k l e.
    ⊎_elim (λ same. other (subst (λ (j : ℕ). at j ≡ b) same e)) (⊎_elim (λ less. h k less e) (λ more. omega arith)) (cases_order k end)
links_more at b end (Some i) other h =
    let inside = h.0 in (
      omega arith,
      h.1,
      λ k m l e.
          ⊎_elim (λ same. other (subst (λ (j : ℕ). at j ≡ b) same e)) (⊎_elim (λ less. h.2 k m less e) (λ more. omega arith)) (cases_order k end),
    )

-- at a chain and a link that are equal
links_at : (at : ℕ → ℕ) (b b' end : ℕ) (link link' : Option ℕ) → b' ≡ b → link' ≡ link → Links at b end link → Links at b' end link'
links_at at b b' end link link' p q h = subst (λ (x : ℕ). Links at x end link') (sym p) (subst (Links at b end) (sym q) h)

-- A row of a new class is appended: the head of its chain names it, and it names what the head did.
module _ (n : ℕ) (rows : List Row) (row : Row) (heads next : List (Option ℕ)) (c : Chained n rows heads next) where
  abbrev rows' : List Row
  rows' = rows ++ (row ∷ [])

  abbrev own : ℕ
  own = in_chain n row.class

  old_row : (k : ℕ) → k < length rows → row_at rows' k ≡ row_at rows k
  old_row k l = get_or_append_left rows (row ∷ []) no_row k l

  new_row : row_at rows' (length rows) ≡ row
  new_row = get_or_push rows row no_row (length rows) refl

  old_chain : (k : ℕ) → k < length rows → chain_at n rows' k ≡ chain_at n rows k
  old_chain k l = ap (λ (r : Row). in_chain n r.class) (old_row k l)

  new_chain : chain_at n rows' (length rows) ≡ own
  new_chain = ap (λ (r : Row). in_chain n r.class) new_row

  old_head : (b : ℕ) → b < n → Links (chain_at n rows') b (length rows) (get_or heads b None)
  old_head b l = links_same (chain_at n rows) _ b (length rows) (get_or heads b None) old_chain (c.begin b l)

  begin_push : length heads ≡ n → (b : ℕ) → b < n → Links (chain_at n rows') b (length rows + 1) (get_or (set heads own (Some (length rows))) b None)
  begin_push full b l =
      ⊎_elim
      (λ same.
      let at : get_or (set heads own (Some (length rows))) own None ≡ Some (length rows) = get_or-set_same heads own _ None (omega arith) in
      subst
      (λ (j : ℕ). Links (chain_at n rows') j (length rows + 1) (get_or (set heads own (Some (length rows))) j None))
      (sym same)
      (links_at _ own own (length rows + 1) _ _ refl at (omega arith, new_chain, λ k m h e. omega arith)))
      (λ other.
      links_at _ b b (length rows + 1) _ _ refl (get_or-set_other heads own b _ None other)
      (links_more _ b (length rows) (get_or heads b None) (λ e. other (sym e ∙ new_chain)) (old_head b l)))
      (cases_eq b own)

  follow_push : length next ≡ length rows → own < n → (i : ℕ) → i < length rows + 1 → Links (chain_at n rows') (chain_at n rows' i) i (get_or (next ++ (get_or heads own None ∷ [])) i None)
  follow_push level inside i l =
      ⊎_elim
      (λ less.
      links_at _ _ _ i (get_or next i None) _ (old_chain i less) (get_or_append_left next _ None i (omega arith))
      (links_same (chain_at n rows) _ _ i (get_or next i None) (λ k h. old_chain k (omega arith)) (c.follow i less)))
      (λ past.
      let last : length rows ≡ i = omega arith in
      subst
      (λ (j : ℕ). Links (chain_at n rows') (chain_at n rows' j) j (get_or (next ++ (get_or heads own None ∷ [])) j None))
      last
      (links_at _ _ _ (length rows) _ _ new_chain (get_or_push next _ None (length rows) level) (old_head own inside)))
      (cases_lt i (length rows))

  apart_push : Absent rows row.class → (i j : ℕ) → i < j → j < length rows + 1 → (row_at rows' i).class ≡ (row_at rows' j).class → ⊥
  apart_push absent i j m l e =
      let before : (row_at rows i).class ≡ (row_at rows' i).class = ap (λ (r : Row). r.class) (sym (old_row i (omega arith))) in
      ⊎_elim
      (λ less. c.apart i j m less (before ∙ e ∙ ap (λ (r : Row). r.class) (old_row j less)))
      (λ past.
      let last : j ≡ length rows = omega arith in
      absent i (omega arith)
      (before ∙ subst (λ (k : ℕ). (row_at rows' i).class ≡ (row_at rows' k).class) last e ∙ ap (λ (r : Row). r.class) new_row))
      (cases_lt j (length rows))

  pub chained_push : length heads ≡ n → length next ≡ length rows → own < n → Absent rows row.class → Chained n rows' (set heads own (Some (length rows))) (next ++ (get_or heads own None ∷ []))
  chained_push full level inside absent =
      let longer : length rows' ≡ length rows + 1 = length_push rows row in
      record {
        begin = λ b l. rw longer (begin_push full b l);
        follow = λ i l. follow_push level inside i (omega arith);
        apart = λ i j m l. apart_push absent i j m (omega arith);
      }

-- The same, by what the lists hold after the writes.
pub chained_more : (n : ℕ) (rows rows' : List Row) (row : Row) (heads heads' next next' : List (Option ℕ)) (b i : ℕ) (before : Option ℕ) → ∥ Chained n rows heads next ∥₁ → length heads ≡ n → length next ≡ length rows → b < n → Absent rows row.class → b ≡ in_chain n row.class → i ≡ length rows → before ≡ get_or heads b None → rows' ≡ rows ++ (row ∷ []) → heads' ≡ set heads b (Some i) → next' ≡ next ++ (before ∷ []) → ∥ Chained n rows' heads' next' ∥₁
chained_more n rows rows' row heads heads' next next' b i before t full level inside absent own last was p q r =
    rw (p, q, r, was, last, own) (∥∥₁_map t (λ c. chained_push n rows row heads next c full level (subst (λ (x : ℕ). x < n) own inside) absent))
