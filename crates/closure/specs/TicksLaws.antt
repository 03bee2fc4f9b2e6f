-- The laws of the kind ticks. (They stand here, since the laws of an impl cite no file of proofs/.)
use Rattle.std.specs.Prelude.{◌≡◌, ℕ, ◌+◌, ◌≤◌, ◌⊎◌, ℤ, pos, Some, None, Option, refl}
use Rattle.std.proofs.Common.{ap, inl, inr, arith}
use Rattle.std.proofs.lemmas.Int.{ints, by_lt_z}
use Rattle.std.proofs.lemmas.Bool.{true≢false}
use Rattle.closure.specs.Kinds.{Laws, AsGood}
use Rattle.closure.specs.Tickings.{ticks, plus, ticks_reach}

reflexive : (a : Option ℤ) → AsGood ticks a a
reflexive (Some a) = grind (arith, ints)
reflexive None = refl

worst : (a : Option ℤ) → AsGood ticks a None
worst a = refl

transitive : (a b c : Option ℤ) → AsGood ticks a b → AsGood ticks b c → AsGood ticks a c
transitive (Some a) (Some b) (Some c) p q = grind (arith, ints)
transitive (Some a) None (Some c) p q = absurd (true≢false q)
transitive None (Some b) (Some c) p q = p
transitive None None (Some c) p q = q
transitive a b None p q = refl

antisymmetric : (a b : Option ℤ) → AsGood ticks a b → AsGood ticks b a → a ≡ b
antisymmetric (Some a) (Some b) p q = ap Some (grind (arith, ints))
antisymmetric (Some a) None p q = absurd (true≢false q)
antisymmetric None (Some b) p q = absurd (true≢false p)
antisymmetric None None p q = refl

total : (a b : Option ℤ) → AsGood ticks a b ⊎ AsGood ticks b a
total (Some a) (Some b) = by_lt_z a b (λ h. inl (grind (arith, ints))) (λ h. inr (grind (arith, ints)))
total (Some a) None = inl refl
total None b = inr refl

assoc : (a b c : Option ℤ) → plus (plus a b) c ≡ plus a (plus b c)
assoc (Some a) (Some b) (Some c) = ap Some (omega (arith, ints))
assoc (Some a) (Some b) None = refl
assoc (Some a) None c = refl
assoc None b c = refl

unit_left : (a : Option ℤ) → plus (Some (pos 0)) a ≡ a
unit_left (Some a) = ap Some (omega (arith, ints))
unit_left None = refl

unit_right : (a : Option ℤ) → plus a (Some (pos 0)) ≡ a
unit_right (Some a) = ap Some (omega (arith, ints))
unit_right None = refl

none_right : (a : Option ℤ) → plus a None ≡ None
none_right (Some a) = refl
none_right None = refl

keeps_left : (a b c : Option ℤ) → AsGood ticks a b → AsGood ticks (plus c a) (plus c b)
keeps_left (Some a) (Some b) (Some c) p = grind (arith, ints)
keeps_left None (Some b) (Some c) p = p
keeps_left a None (Some c) p = refl
keeps_left a b None p = refl

keeps_right : (a b c : Option ℤ) → AsGood ticks a b → AsGood ticks (plus a c) (plus b c)
keeps_right (Some a) (Some b) (Some c) p = grind (arith, ints)
keeps_right (Some a) (Some b) None p = refl
keeps_right None (Some b) c p = absurd (true≢false p)
keeps_right a None c p = refl

reach_more : (m k : ℕ) (a : Option ℤ) → m ≤ k → ticks_reach m a → ticks_reach k a
reach_more m k (Some a) h r = let x = r.0 in let y = r.1 in (omega (arith, ints), omega (arith, ints))
reach_more m k None h r = tt

reach_follow : (m k : ℕ) (a b : Option ℤ) → ticks_reach m a → ticks_reach k b → ticks_reach (m + k) (plus a b)
reach_follow m k (Some a) (Some b) r s =
    let x = r.0 in
    let y = r.1 in
    let z = s.0 in
    let w = s.1 in
    (omega (arith, ints), omega (arith, ints))
reach_follow m k (Some a) None r s = tt
reach_follow m k None b r s = tt

pub ticks_laws : Laws ticks
ticks_laws = record {
  reflexive = reflexive;
  transitive = transitive;
  antisymmetric = antisymmetric;
  total = total;
  assoc = assoc;
  keeps_left = keeps_left;
  keeps_right = keeps_right;
  unit_left = unit_left;
  unit_right = unit_right;
  none_left = λ a. refl;
  none_right = none_right;
  worst = worst;
  reach_more = reach_more;
  reach_follow = reach_follow;
}
