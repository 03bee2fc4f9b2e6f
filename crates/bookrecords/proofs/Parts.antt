-- The bytes of a part of a book.
use Rattle.std.proofs.Common.{◌≡◌, ℕ, ◌+◌, ◌<◌, ◌≤◌, List, length, get_or, take, drop, ap, ◌∙◌, arith, length-drop, length-take-le, get_or-drop, get_or-take}

module _ (b part : List ℕ) (place len : ℕ) (in_book : place + len ≤ length b) (is : part ≡ take len (drop place b)) where
  pub part_length : length part ≡ len
  part_length = let fits : len ≤ length (drop place b) = omega (arith, length-drop place b) in ap length is ∙ length-take-le len (drop place b) fits

  pub part_byte : (k : ℕ) → k < len → get_or part k 0 ≡ get_or b (place + k) 0
  part_byte k h = ap (λ (l : List ℕ). get_or l k 0) is ∙ get_or-take len (drop place b) k 0 h ∙ get_or-drop place b k 0
