-- Parts of a list of bytes.
use Rattle.std.proofs.Common.{◌≡◌, ℕ, zero, suc, ◌+◌, ◌<◌, ◌≤◌, List, [], ◌∷◌, ◌++◌, map, length, get_or, sym, refl, ap, ◌∙◌, subst, add-one, arith}
use Rattle.std.specs.List.{range_with_len}
use Rattle.std.proofs.lemmas.List.{append_assoc, append-nil, length-append, ext_get_or}
use Rattle.std.proofs.lemmas.List.FromFn.{map-range_with_len_more}
use Rattle.bookformat.specs.Encoding.{joined}

-- the bytes xs stand in b from place i on
pub record Starts (b : List ℕ) (i : ℕ) (xs : List ℕ) : Type 0 where
  pub within : i + length xs ≤ length b
  pub reads : (k : ℕ) → k < length xs → get_or b (i + k) 0 ≡ get_or xs k 0

pub starts_at : (b xs : List ℕ) (i j : ℕ) → i ≡ j → Starts b i xs → Starts b j xs
starts_at b xs i j e s = subst (λ k. Starts b k xs) e s

pub starts_nil : (b : List ℕ) (i : ℕ) → i ≤ length b → Starts b i []
starts_nil b i l = record { within = omega arith; reads = λ k h. absurd (omega arith) }

cons_reads : (b : List ℕ) (i j x : ℕ) (xs : List ℕ) → i + 1 ≡ j → get_or b i 0 ≡ x → Starts b j xs → (k : ℕ) → k < length (x ∷ xs) → get_or b (i + k) 0 ≡ get_or (x ∷ xs) k 0
cons_reads b i j x xs n e s zero h = ap (λ m. get_or b m 0) (let q : i + zero ≡ i = omega arith in q) ∙ e
cons_reads b i j x xs n e s (suc k) h = ap (λ m. get_or b m 0) (let q : i + suc k ≡ j + k = omega arith in q) ∙ s.reads k (omega arith)

pub starts_cons : (b : List ℕ) (i j x : ℕ) (xs : List ℕ) → i + 1 ≡ j → get_or b i 0 ≡ x → Starts b j xs → Starts b i (x ∷ xs)
starts_cons b i j x xs n e s = record { within = omega (arith, s.within); reads = cons_reads b i j x xs n e s }

pub starts_head : (b : List ℕ) (i x : ℕ) (xs : List ℕ) → Starts b i (x ∷ xs) → get_or b i 0 ≡ x
starts_head b i x xs s = ap (λ m. get_or b m 0) (let q : i ≡ i + zero = omega arith in q) ∙ s.reads 0 (omega arith)

pub starts_tail : (b : List ℕ) (i j x : ℕ) (xs : List ℕ) → i + 1 ≡ j → Starts b i (x ∷ xs) → Starts b j xs
starts_tail b i j x xs n s =
    record { within = omega (arith, s.within); reads = λ k h. ap (λ m. get_or b m 0) (let q : j + k ≡ i + suc k = omega arith in q) ∙ s.reads (suc k) (omega arith) }

pub starts_join : (b : List ℕ) (i j : ℕ) (xs ys : List ℕ) → i + length xs ≡ j → Starts b i xs → Starts b j ys → Starts b i (xs ++ ys)
starts_join b i j [] ys n s t = starts_at b ys j i (omega arith) t
starts_join b i j (x ∷ xs) ys n s t =
    starts_cons b i (i + 1) x (xs ++ ys) refl (starts_head b i x xs s) (starts_join b (i + 1) j xs ys (omega arith) (starts_tail b i (i + 1) x xs refl s) t)

pub starts_left : (b : List ℕ) (i : ℕ) (xs ys : List ℕ) → Starts b i (xs ++ ys) → Starts b i xs
starts_left b i [] ys s = starts_nil b i (omega (arith, s.within))
starts_left b i (x ∷ xs) ys s =
    starts_cons b i (i + 1) x xs refl (starts_head b i x (xs ++ ys) s) (starts_left b (i + 1) xs ys (starts_tail b i (i + 1) x (xs ++ ys) refl s))

pub starts_right : (b : List ℕ) (i j : ℕ) (xs ys : List ℕ) → i + length xs ≡ j → Starts b i (xs ++ ys) → Starts b j ys
starts_right b i j [] ys n s = starts_at b ys i j (omega arith) s
starts_right b i j (x ∷ xs) ys n s = starts_right b (i + 1) j xs ys (omega arith) (starts_tail b i (i + 1) x (xs ++ ys) refl s)

pub starts_self : (b : List ℕ) → Starts b 0 b
starts_self b = record { within = omega arith; reads = λ k h. ap (λ m. get_or b m 0) (let q : 0 + k ≡ k = omega arith in q) }

pub starts_whole : (b xs : List ℕ) → Starts b 0 xs → length xs ≡ length b → xs ≡ b
starts_whole b xs s n = ext_get_or 0 xs b n (λ k h. sym (s.reads k h) ∙ ap (λ m. get_or b m 0) (let q : 0 + k ≡ k = omega arith in q))

-- items one after the other

joined_append : {X : Type 0} (f : X → List ℕ) (xs ys : List X) → joined f (xs ++ ys) ≡ joined f xs ++ joined f ys
joined_append f [] ys = refl
joined_append f (x ∷ xs) ys = ap (λ r. f x ++ r) (joined_append f xs ys) ∙ sym (append_assoc (f x) (joined f xs) (joined f ys))

joined_more : {X : Type 0} (f : X → List ℕ) (item : ℕ → X) (n : ℕ) → joined f (map item (range_with_len 0 (suc n))) ≡ joined f (map item (range_with_len 0 n)) ++ f (item n)
joined_more f item n =
    ap (λ m. joined f (map item (range_with_len 0 m))) (sym (add-one n)) ∙ ap (joined f) (map-range_with_len_more item 0 n n (omega arith))
    ∙ joined_append f (map item (range_with_len 0 n)) (item n ∷ []) ∙ ap (λ r. joined f (map item (range_with_len 0 n)) ++ r) (append-nil (f (item n)))

-- items of which each stands where the one before ends
module _ {X : Type 0} (b : List ℕ) (bytes : X → List ℕ) (item : ℕ → X) (at : ℕ → ℕ) where
  pub joined_ends : (n : ℕ) → ((k : ℕ) → k < n → at (suc k) ≡ at k + length (bytes (item k))) → at 0 + length (joined bytes (map item (range_with_len 0 n))) ≡ at n
  joined_ends zero step = omega arith
  joined_ends (suc n) step =
      let before = joined_ends n (λ k h. step k (omega arith)) in
      let here = step n (omega arith) in
      let len = ap length (joined_more bytes item n) ∙ length-append (joined bytes (map item (range_with_len 0 n))) (bytes (item n)) in
      omega arith

  pub joined_starts : (n : ℕ) → at 0 ≤ length b → ((k : ℕ) → k < n → at (suc k) ≡ at k + length (bytes (item k))) → ((k : ℕ) → k < n → Starts b (at k) (bytes (item k))) → Starts b (at 0) (joined bytes (map item (range_with_len 0 n)))
  joined_starts zero l step each = starts_nil b (at 0) l
  joined_starts (suc n) l step each =
      subst (λ r. Starts b (at 0) r) (sym (joined_more bytes item n))
      (starts_join b (at 0) (at n) (joined bytes (map item (range_with_len 0 n))) (bytes (item n))
      (joined_ends n (λ k h. step k (omega arith)))
      (joined_starts n l (λ k h. step k (omega arith)) (λ k h. each k (omega arith)))
      (each n (omega arith)))

below_suc : (P : ℕ → Type 0) (n : ℕ) → P 0 → ((k : ℕ) → k < n → P (suc k)) → (k : ℕ) → k < suc n → P k
below_suc P n first rest zero h = first
below_suc P n first rest (suc k) h = rest k (omega arith)

-- the place of each item, and of what follows the last
pub joined_places : {X : Type 0} (b : List ℕ) (bytes : X → List ℕ) (d : X) (xs : List X) (rest : List ℕ) (at : ℕ → ℕ) → Starts b (at 0) (joined bytes xs ++ rest) → ((k : ℕ) → k < length xs → Starts b (at k) (bytes (get_or xs k d)) → at (suc k) ≡ at k + length (bytes (get_or xs k d))) → ((k : ℕ) → k < length xs → Starts b (at k) (bytes (get_or xs k d))) × Starts b (at (length xs)) rest
joined_places b bytes d [] rest at s step = (λ k h. absurd (omega arith), s)
joined_places b bytes d (x ∷ xs) rest at s step =
    let s' : Starts b (at 0) (bytes x ++ (joined bytes xs ++ rest)) = subst (λ r. Starts b (at 0) r) (append_assoc (bytes x) (joined bytes xs) rest) s in
    let first = starts_left b (at 0) (bytes x) (joined bytes xs ++ rest) s' in
    let next = starts_right b (at 0) (at 1) (bytes x) (joined bytes xs ++ rest) (sym (step 0 (omega arith) first)) s' in
    let more = joined_places b bytes d xs rest (λ k. at (suc k)) next (λ k h. step (suc k) (omega arith)) in
    (below_suc (λ k. Starts b (at k) (bytes (get_or (x ∷ xs) k d))) (length xs) first more.0, more.1)
