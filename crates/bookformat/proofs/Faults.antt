-- The first fault of a list of tests.
use Rattle.std.proofs.Common.{◌≡◌, ℕ, zero, suc, ◌+◌, ◌<◌, Bool, true, false, cond, List, [], ◌∷◌, ◌++◌, Some, None, Option, sym, refl, ◌∙◌, subst, ⊎_elim, add-one, arith}
use Rattle.std.proofs.lemmas.Bool.{cases_eq}
use Rattle.bookformat.specs.declared.fault.Fault.{Fault}
use Rattle.bookformat.specs.Reading.{Test, test, first_fault, each}

some_none : {X : Type 0} (x : X) → None ≡ Some x → ⊥
some_none x e = let z : ◌≡◌ {A = ℕ} 0 1 = cc in omega arith

cond_some : (t : Bool) (g f : Fault) (a b : Option Fault) → (a ≡ Some f → b ≡ Some f) → cond t a (Some g) ≡ Some f → cond t b (Some g) ≡ Some f
cond_some true g f a b step e = step e
cond_some false g f a b step e = e

cond_none : (t : Bool) (g : Fault) (a b c : Option Fault) → (a ≡ None → b ≡ c) → cond t a (Some g) ≡ None → cond t b (Some g) ≡ c
cond_none true g a b c step e = step e
cond_none false g a b c step e = absurd (some_none g (sym e))

-- a fault of the front is the fault of the whole
pub fault_left : (xs ys : List Test) (f : Fault) → first_fault xs ≡ Some f → first_fault (xs ++ ys) ≡ Some f
fault_left [] ys f e = absurd (some_none f e)
fault_left (t ∷ xs) ys f e = cond_some t.holds t.fault f (first_fault xs) (first_fault (xs ++ ys)) (fault_left xs ys f) e

-- after a front without fault, what follows decides
pub fault_right : (xs ys : List Test) → first_fault xs ≡ None → first_fault (xs ++ ys) ≡ first_fault ys
fault_right [] ys e = refl
fault_right (t ∷ xs) ys e = cond_none t.holds t.fault (first_fault xs) (first_fault (xs ++ ys)) (first_fault ys) (fault_right xs ys) e

pub each_fails : (tests : ℕ → List Test) (n i : ℕ) (f : Fault) → i < n → first_fault (each tests i) ≡ None → first_fault (tests i) ≡ Some f → first_fault (each tests n) ≡ Some f
each_fails tests zero i f l front here = absurd (omega arith)
each_fails tests (suc n) i f l front here =
    ⊎_elim
    (λ e. fault_right (each tests n) (tests n) (subst (λ k. first_fault (each tests k) ≡ None) e front) ∙ subst (λ k. first_fault (tests k) ≡ Some f) e here)
    (λ ne. fault_left (each tests n) (tests n) f (each_fails tests n i f (omega arith) front here))
    (cases_eq i n)

pub each_passes : (tests : ℕ → List Test) (i : ℕ) → first_fault (each tests i) ≡ None → first_fault (tests i) ≡ None → first_fault (each tests (i + 1)) ≡ None
each_passes tests i front here = rw add-one (fault_right (each tests i) (tests i) front ∙ here)

-- a front without fault and an end without fault
pub none_join : (xs ys : List Test) → first_fault xs ≡ None → first_fault ys ≡ None → first_fault (xs ++ ys) ≡ None
none_join xs ys p q = fault_right xs ys p ∙ q

cond_left : (t : Bool) (g : Fault) (a b : Option Fault) → (b ≡ None → a ≡ None) → cond t b (Some g) ≡ None → cond t a (Some g) ≡ None
cond_left true g a b step e = step e
cond_left false g a b step e = e

pub none_left : (xs ys : List Test) → first_fault (xs ++ ys) ≡ None → first_fault xs ≡ None
none_left [] ys e = refl
none_left (t ∷ xs) ys e = cond_left t.holds t.fault (first_fault xs) (first_fault (xs ++ ys)) (none_left xs ys) e

pub none_right : (xs ys : List Test) → first_fault (xs ++ ys) ≡ None → first_fault ys ≡ None
none_right xs ys e = sym (fault_right xs ys (none_left xs ys e)) ∙ e

-- one test
pub none_cons : (t : Bool) (f : Fault) (ts : List Test) → t ≡ true → first_fault ts ≡ None → first_fault (test t f ∷ ts) ≡ None
none_cons true f ts e h = h
none_cons false f ts e h = absurd (some_none 0 (let z : ◌≡◌ {A = Option ℕ} None (Some 0) = cc in z))

pub none_head : (t : Bool) (f : Fault) (ts : List Test) → first_fault (test t f ∷ ts) ≡ None → t ≡ true
none_head true f ts e = refl
none_head false f ts e = absurd (some_none f (sym e))

pub none_tail : (t : Bool) (f : Fault) (ts : List Test) → first_fault (test t f ∷ ts) ≡ None → first_fault ts ≡ None
none_tail true f ts e = e
none_tail false f ts e = absurd (some_none f (sym e))

-- each of the tests below n
pub each_none : (tests : ℕ → List Test) (n : ℕ) → ((k : ℕ) → k < n → first_fault (tests k) ≡ None) → first_fault (each tests n) ≡ None
each_none tests zero all = refl
each_none tests (suc n) all = none_join (each tests n) (tests n) (each_none tests n (λ k l. all k (omega arith))) (all n (omega arith))

pub each_at : (tests : ℕ → List Test) (n k : ℕ) → first_fault (each tests n) ≡ None → k < n → first_fault (tests k) ≡ None
each_at tests zero k e l = absurd (omega arith)
each_at tests (suc n) k e l =
    ⊎_elim
    (λ is. subst (λ j. first_fault (tests j) ≡ None) (sym is) (none_right (each tests n) (tests n) e))
    (λ ne. each_at tests n k (none_left (each tests n) (tests n) e) (omega arith))
    (cases_eq k n)

pub some_head : (t : Bool) (f : Fault) (ts : List Test) → t ≡ false → first_fault (test t f ∷ ts) ≡ Some f
some_head true f ts e = absurd (some_none f (let z : ◌≡◌ {A = Option Fault} None (Some f) = cc in z))
some_head false f ts e = refl

-- every test holds
abbrev pub Passes : List Test → Type 0
Passes [] = Unit {0}
Passes (t ∷ ts) = (t.holds ≡ true) × Passes ts

pub passes : (ts : List Test) → first_fault ts ≡ None → Passes ts
passes [] e = tt
passes (t ∷ ts) e = (none_head t.holds t.fault ts e, passes ts (none_tail t.holds t.fault ts e))

pub passed : (ts : List Test) → Passes ts → first_fault ts ≡ None
passed [] p = refl
passed (t ∷ ts) p = none_cons t.holds t.fault ts p.0 (passed ts p.1)
