-- The silent stations of a full chart, one more at a time, and a list, item after item.
use Rattle.std.proofs.Common.{◌≡◌, ℕ, ◌+◌, Bool, true, false, cond, List, [], ◌∷◌, ◌++◌, drop, length, get_or, filter, sym, ap, ◌∙◌, append_assoc, zero-add, arith}
use Rattle.std.specs.List.{range_with_len}
use Rattle.std.proofs.lemmas.List.FromFn.{filter_of_map_range_with_len_more}
use Rattle.std.proofs.lemmas.List.{map-id, append-nil, length-drop, drop_more}
use Rattle.bookformat.specs.Bounded.{Bounded, bounded_len}
use Rattle.bookformat.specs.declared.value.Event.{Event}
use Rattle.bookformat.specs.Reading.{is_silent}
use Rattle.fullchart.specs.Finds.{SilentAdded}

counting_more : (p : ℕ → Bool) (n : ℕ) → filter p (range_with_len 0 (n + 1)) ≡ filter p (range_with_len 0 n) ++ cond (p n) (n ∷ []) []
counting_more p n =
    ap (filter p) (sym (map-id (range_with_len 0 (n + 1)))) ∙ filter_of_map_range_with_len_more p (λ k. k) 0 n n (zero-add n)
    ∙ ap (λ (l : List ℕ). filter p l ++ cond (p n) (n ∷ []) []) (map-id (range_with_len 0 n))

pub silent_more : (s a b : Bounded ℕ 48) (es : List Event) (n : ℕ) → is_silent es n ≡ true → SilentAdded s a es n → b.items ≡ a.items ++ n ∷ [] → bounded_len b ≡ bounded_len a + 1 → SilentAdded s b es (n + 1)
silent_more s a b es n is-so so_far pushed len = record {
  held_are =
      pushed ∙ ap (λ (l : List ℕ). l ++ n ∷ []) so_far.held_are ∙ append_assoc s.items (filter (is_silent es) (range_with_len 0 n)) (n ∷ [])
      ∙ ap (λ (l : List ℕ). s.items ++ l) (ap (λ (t : Bool). filter (is_silent es) (range_with_len 0 n) ++ cond t (n ∷ []) []) (sym is-so) ∙ sym (counting_more (is_silent es) n));
  count = omega (arith, so_far.count);
}

pub silent_same : (s a : Bounded ℕ 48) (es : List Event) (n : ℕ) → is_silent es n ≡ false → SilentAdded s a es n → SilentAdded s a es (n + 1)
silent_same s a es n not_so so_far = record {
  held_are =
      so_far.held_are
      ∙ ap (λ (l : List ℕ). s.items ++ l) (sym (append-nil (filter (is_silent es) (range_with_len 0 n))) ∙ ap (λ (t : Bool). filter (is_silent es) (range_with_len 0 n) ++ cond t (n ∷ []) []) (sym not_so) ∙ sym (counting_more (is_silent es) n));
  count = omega (arith, so_far.count);
}

-- what is left of a list when the next item has been taken
pub taken : {X : Type 0} (xs : List X) (i : ℕ) {rest left : List X} {j : ℕ} {x : X} (d : X) → rest ≡ drop i xs → rest ≡ x ∷ left → j ≡ i + 1 → (left ≡ drop j xs) × (x ≡ get_or xs i d)
taken xs i {rest} {left} {j} {x} d here first on =
    let whole : x ∷ left ≡ get_or xs i d ∷ drop (i + 1) xs = sym first ∙ here ∙ drop_more xs i d (omega (arith, length-drop i xs, ap length (sym first ∙ here))) in
    let further : left ≡ drop (i + 1) xs = cc in
    (further ∙ ap (λ k. drop k xs) (sym on), cc)
