-- What the searches before the rounds find.
use Rattle.std.proofs.Common.{◌≡◌, ℕ, ◌<◌, ◌≤◌, true, false, Some, None, Option, MatchOption, List, [], ◌∷◌, length, get_or, sym, subst, arith}
use Rattle.std.specs.List.{AllWithin, HoldsAt}
use Rattle.std.proofs.lemmas.List.{get_or-map}
use Rattle.closure.specs.Kinds.{Kind, Laws, Meaning}
use Rattle.closure.specs.Walks.{Bad}
use Rattle.closure.specs.Closings.{weight_at, GivenBefore, FirstBeyond}
use Rattle.closure.specs.Rounds.{Fair}
use Rattle.closure.proofs.Rounds.{bad_by}

module _ {W : Type 0} (meaning : Meaning W) where
  -- what holds of what stands at p holds of the weight there
  at_weight : (P : meaning.Value → Type 0) (l : List W) (p : ℕ) → p < length l → ((d : W) → P (meaning.value (get_or l p d))) → P (weight_at meaning l p)
  at_weight P [] p h f = absurd (omega arith)
  at_weight P (x ∷ xs) p h f = subst P (sym (get_or-map meaning.value (x ∷ xs) p x meaning.kind.none h)) (f x)

  given_all : (l : List W) (n : ℕ) → n ≤ length l → AllWithin (λ w. meaning.kind.reach 1 (meaning.value w)) l 0 n → GivenBefore meaning l n
  given_all l n fits all k h = at_weight (meaning.kind.reach 1) l k (omega arith) (λ d. all k d (omega arith) h)

  -- the first weight that may not be given
  pub first_beyond : (l : List W) (r : Option ℕ)
      → MatchOption r (AllWithin (λ w. meaning.kind.reach 1 (meaning.value w)) l 0 (length l)) (λ p. (p < length l) × HoldsAt (λ w. meaning.kind.reach 1 (meaning.value w) → ⊥) l p × AllWithin (λ w. meaning.kind.reach 1 (meaning.value w)) l 0 p)
      → MatchOption r (GivenBefore meaning l (length l)) (λ p. FirstBeyond meaning l p)
  first_beyond l None all = given_all l (length l) (omega arith) all
  first_beyond l (Some p) (within, beyond, before) = record {
    within = within;
    beyond = at_weight (λ w. meaning.kind.reach 1 w → ⊥) l p within beyond;
    before = given_all l p (omega arith) before;
  }

-- the first place with a bad entry on the diagonal
pub bad_diagonal : {W : Type 0} {kind : Kind W} (laws : Laws kind) (n : ℕ) (t : ℕ → ℕ → W) (r : Option ℕ)
    → MatchOption r ((k : ℕ) → 0 ≤ k → k < n → kind.better (t k k) kind.unit ≡ false) (λ p. (0 ≤ p) × (p < n) × (kind.better (t p p) kind.unit ≡ true) × ((k : ℕ) → 0 ≤ k → k < p → kind.better (t k k) kind.unit ≡ false))
    → MatchOption r (Fair kind n t) (λ p. Bad kind n t p)
bad_diagonal laws n t None all = λ p h. all p (omega arith) h
bad_diagonal laws n t (Some p) found = bad_by laws n t p [] found.1 tt found.2
