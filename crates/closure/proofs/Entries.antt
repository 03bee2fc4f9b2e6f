-- Reading and writing a list of weights as a table.
use Rattle.std.proofs.Common.{◌≡◌, ℕ, ◌+◌, ◌*◌, ◌/◌, ◌%◌, ◌<◌, ◌≢◌, List, map, length, get_or, set, sym, ap, ◌∙◌, add-mul, one-mul, arith}
use Rattle.std.proofs.lemmas.List.{get_or-set_same, get_or-set_other, get_or-map, map-set, length-map}
use Rattle.std.proofs.lemmas.Nat.{mul-add-lt, div-mul-add, mod-mul-add}
use Rattle.closure.specs.Kinds.{Meaning}
use Rattle.closure.specs.Closings.{weight_at, entry}

pub place_below : (n i j : ℕ) → i < n → j < n → i * n + j < n * n
place_below n i j hi hj = mul-add-lt i n j n hi hj

pub same_row : (n a b i j : ℕ) → b < n → j < n → a * n + b ≡ i * n + j → a ≡ i
same_row n a b i j hb hj e = sym (div-mul-add a n b hb) ∙ ap (λ x. x / n) e ∙ div-mul-add i n j hj

pub same_column : (n a b i j : ℕ) → b < n → j < n → a * n + b ≡ i * n + j → b ≡ j
same_column n a b i j hb hj e = sym (mod-mul-add a n b hb) ∙ ap (λ x. x % n) e ∙ mod-mul-add i n j hj

-- the place past a row is the first of the next
pub row_end : (n i j : ℕ) → j ≡ n → i * n + j ≡ (i + 1) * n
row_end n i j e = ap (λ x. i * n + x) (e ∙ sym (one-mul n)) ∙ sym (add-mul i 1 n)

module _ {W : Type 0} (meaning : Meaning W) where
  -- what is read at p means the weight that stands there
  pub weight_read : (l : List W) (p : ℕ) (x : W) → p < length l → x ≡ get_or l p x → meaning.value x ≡ weight_at meaning l p
  weight_read l p x lt is = ap meaning.value is ∙ sym (get_or-map meaning.value l p x meaning.kind.none lt)

  -- what is read at the place of row i and column j is the entry there
  pub entry_read : (n i j : ℕ) (l : List W) (p : ℕ) (x : W) → p ≡ i * n + j → p < length l → x ≡ get_or l p x → meaning.value x ≡ entry meaning n l i j
  entry_read n i j l p x e lt is = weight_read l p x lt is ∙ ap (weight_at meaning l) e

  pub write_same : (l : List W) (p : ℕ) (x : W) → p < length l → weight_at meaning (set l p x) p ≡ meaning.value x
  write_same l p x lt =
      let room : p < length (map meaning.value l) = omega (arith, length-map l meaning.value) in
      ap (λ m. get_or m p meaning.kind.none) (map-set meaning.value l p x) ∙ get_or-set_same (map meaning.value l) p (meaning.value x) meaning.kind.none room

  pub write_other : (l : List W) (p q : ℕ) (x : W) → q ≢ p → weight_at meaning (set l p x) q ≡ weight_at meaning l q
  write_other l p q x ne = ap (λ m. get_or m q meaning.kind.none) (map-set meaning.value l p x) ∙ get_or-set_other (map meaning.value l) p q (meaning.value x) meaning.kind.none ne
