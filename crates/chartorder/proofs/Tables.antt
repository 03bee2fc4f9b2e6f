-- The table of links, and what its closure says of the order.
use Rattle.std.proofs.Common.{◌≡◌, ℕ, ◌+◌, ◌*◌, ◌%◌, ◌<◌, Bool, true, false, Ok, Err, Result, is_ok, MatchBool, List, [], ◌∷◌, length, get_or, Decides, sym, refl, ap, ◌∙◌, subst, arith}
use Rattle.std.proofs.lemmas.Bool.{both_ways}
use Rattle.std.proofs.lemmas.Nat.{div-mul-add, mod-mul-add}
use Rattle.std.specs.List.{AllWithin, HoldsAt, range_with_len}
use Rattle.std.proofs.lemmas.List.FromFn.{length-range_with_len, get_or-range_with_len}
use Rattle.std.proofs.lemmas.List.{map-id, get_or_default}
use Rattle.bookformat.specs.declared.value.Event.{Event}
use Rattle.bookformat.specs.Rules.{DirectlyBefore, ComesBefore, directly, onward, Acyclic}
use Rattle.bookformat.specs.Reading.{is_directly_before}
use Rattle.bookformat.proofs.Tests.{decides_before}
use Rattle.bookformat.proofs.Orders.{comes_first}
use Rattle.closure.specs.declared.kinds.Before.{Before}
use Rattle.closure.specs.declared.kinds.Before.TheVariants.{Linked, Unlinked}
use Rattle.closure.specs.Befores.{before, before_meaning}
use Rattle.closure.specs.Walks.{Walk, weight, Closure}
use Rattle.closure.specs.declared.tables.Unclosed.{Unclosed}
use Rattle.closure.specs.Closings.{entry, Closes, Filled}
use Rattle.closure.proofs.Entries.{place_below}
use Rattle.chartorder.specs.Orders.{link_of, NoLoop}

-- an entry of a table is what stands there in the list
pub entry_is : (n i j : ℕ) (l : List Before) (d : Before) → i * n + j < length l → entry before_meaning n l i j ≡ get_or l (i * n + j) d
entry_is n i j l d h = ap (λ (xs : List Before). get_or xs (i * n + j) Unlinked) (map-id l) ∙ get_or_default l (i * n + j) Unlinked d h

linked_apart : Linked ≡ Unlinked → ⊥
linked_apart e = let z : ◌≡◌ {A = ℕ} 0 1 = cc in omega arith

not_linked : (w : Before) → (w ≡ Linked → ⊥) → w ≡ Unlinked
not_linked Linked ne = absurd (ne refl)
not_linked Unlinked ne = refl

number_at : (n k : ℕ) → k < n → get_or (range_with_len 0 n) k 0 ≡ k
number_at n k h = omega (arith, get_or-range_with_len 0 n k 0 h)

-- the test of each place tells whether there is a loop
pub no_loop_all : (n : ℕ) (u : ℕ → ℕ → Before) (r : Bool)
    → MatchBool r (AllWithin (λ e. u e e ≡ Unlinked) (range_with_len 0 n) 0 (length (range_with_len 0 n))) ((k : ℕ) × (k < length (range_with_len 0 n)) × HoldsAt (λ e. u e e ≡ Unlinked → ⊥) (range_with_len 0 n) k)
    → Decides r (NoLoop n u)
no_loop_all n u true all = (
  λ e x h. subst (λ y. u y y ≡ Unlinked) (number_at n x h) (all x 0 (omega arith) (omega (arith, length-range_with_len 0 n))),
  λ none. refl,
)
no_loop_all n u false (k, within, found) =
    let h : k < n = omega (arith, length-range_with_len 0 n) in (
      λ f. absurd (both_ways false refl f),
      λ none. absurd (found 0 (subst (λ y. u y y ≡ Unlinked) (sym (number_at n k h)) (none k h))),
    )

linked_true : (t : Bool) → (link_of t ≡ Unlinked → ⊥) → t ≡ true
linked_true true ne = refl
linked_true false ne = absurd (ne refl)

-- the table t has the links between the events
module _ (es : List Event) (t : ℕ → ℕ → Before) (links : (i j : ℕ) → i < length es → j < length es → t i j ≡ link_of (is_directly_before es i j)) where
  step : (i j : ℕ) → i < length es → j < length es → (t i j ≡ Unlinked → ⊥) → DirectlyBefore es i j
  step i j hi hj ne = (decides_before es i j).0 (linked_true (is_directly_before es i j) (λ e. ne (links i j hi hj ∙ e)))

  link : (i j : ℕ) → i < length es → j < length es → DirectlyBefore es i j → t i j ≡ Linked
  link i j hi hj d = links i j hi hj ∙ ap link_of ((decides_before es i j).1 d)

  -- a walk over the table is a way through the order
  walk_comes : (i j : ℕ) (by : List ℕ) → i < length es → j < length es → Walk before (length es) t i by j → ComesBefore es i j
  walk_comes i j [] hi hj w = directly (step i j hi hj w)
  walk_comes i j (p ∷ ps) hi hj (hp, l, rest) = onward p (step i p hi hp l) (walk_comes p j ps hp hj rest)

  record Found (i j : ℕ) : Type 0 where
    by : List ℕ
    walk : Walk before (length es) t i by j
    linked : weight before t i by j ≡ Linked

  comes_walk : {i j : ℕ} → ComesBefore es i j → j < length es → Found i j
  comes_walk {i} {j} (directly d) hj =
      let l = link i j (comes_first es (directly d)) hj d in
      record { by = []; walk = λ e. linked_apart (sym l ∙ e); linked = l }
  comes_walk {i} {j} (onward g d rest) hj =
      let hg = comes_first es rest in
      let l = link i g (comes_first es (directly d)) hg d in
      let r = comes_walk rest hj in
      record { by = g ∷ r.by; walk = (hg, λ e. linked_apart (sym l ∙ e), r.walk); linked = ap (λ (w : Before). before.follow w (weight before t g r.by j)) l ∙ r.linked }

  -- the closed table has no loop exactly if no event comes before itself
  module _ (u : ℕ → ℕ → Before) (closed : Closure before (length es) t u) where
    pub loop_comes : (e : ℕ) → e < length es → (u e e ≡ Unlinked → ⊥) → ComesBefore es e e
    loop_comes e h ne = let a = (closed.best e e h h).attained ne in walk_comes e e a.by h h a.walk

    pub no_loop : NoLoop (length es) u → Acyclic es
    no_loop none e c =
        let h = comes_first es c in
        let f = comes_walk c h in
        let b = (closed.best e e h h).bound f.by f.walk in
        let e1 = none e h in
        let e2 = f.linked in
        let z : ◌≡◌ {A = Bool} true false = ap (λ (w : Before). before.better w Unlinked) (sym e2) ∙ ap (λ (w : Before). before.better (weight before t e f.by e) w) (sym e1) ∙ b in
        let y : ◌≡◌ {A = ℕ} 0 1 = cc in omega arith

    pub loop_free : Acyclic es → NoLoop (length es) u
    loop_free none e h = not_linked (u e e) (λ l. none e (loop_comes e h (λ x. linked_apart (sym l ∙ x))))

-- a list that is filled with the links is the table of links
pub links_table : (es : List Event) (l : List Before) → length l ≡ length es * length es → Filled (λ i j w. w ≡ link_of (is_directly_before es i j)) (length es) l → (i j : ℕ) → i < length es → j < length es → entry before_meaning (length es) l i j ≡ link_of (is_directly_before es i j)
links_table es l size filled i j hi hj =
    let n = length es in
    let within : i * n + j < length l = omega (arith, place_below n i j hi hj) in
    entry_is n i j l Linked within ∙ filled (i * n + j) Linked within
    ∙ ap (λ k. link_of (is_directly_before es k ((i * n + j) % n))) (div-mul-add i n j hj) ∙ ap (λ k. link_of (is_directly_before es i k)) (mod-mul-add i n j hj)

-- what the answer of a closed table decides
pub closed_decides : (es : List Event) (l m : List Before) (closing : Result (Unit {0}) Unclosed) (r : Bool) → Filled (λ i j w. w ≡ link_of (is_directly_before es i j)) (length es) l → Closes before_meaning (length es) l m closing → is_ok closing ≡ true → Decides r (NoLoop (length es) (entry before_meaning (length es) m)) → Decides r (Acyclic es)
closed_decides es l m (Ok done) r filled closed ok d =
    let t = entry before_meaning (length es) l in
    let u = entry before_meaning (length es) m in
    let are = links_table es l closed.0.1 filled in
    (λ e. no_loop es t are u closed.2 (d.0 e), λ none. d.1 (loop_free es t are u closed.2 none))
closed_decides es l m (Err e) r filled closed ok d = absurd (both_ways false refl ok)
