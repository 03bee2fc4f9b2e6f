-- The parts of bounds, one bound or interval more at a time.
use Rattle.std.proofs.Common.{◌≡◌, ℕ, ◌+◌, true, ltb, List, pos, Some, sym, ap, ◌∙◌, subst₂, arith}
use native.Mathlib.Decide.{dec_lt}
use Rattle.std.proofs.lemmas.Int.{ints}
use Rattle.bookformat.specs.declared.value.Event.{Event}
use Rattle.bookformat.specs.declared.value.Interval.{Interval}
use Rattle.bookformat.specs.Values.{BookValue}
use Rattle.bookformat.specs.Reading.{is_directly_before}
use Rattle.bookformat.proofs.Tests.{decides_before}
use Rattle.fullchart.specs.Finds.{FirstOn}
use Rattle.paths.specs.Datings.{Within, drift_of}
use Rattle.steps.specs.declared.bounds.Bounds.{Bounds}
use Rattle.steps.specs.Fillings.{Adds, AtMost}
use Rattle.steps.specs.Parts.{BeforeKept, DriftKept, CrossingKept}
use Rattle.steps.proofs.Filled.{adds_like}

pub before_entered : {s t : Bounds} {es : List Event} (first : ℕ) {e f : ℕ} → is_directly_before es e f ≡ true → Adds s t (AtMost (first + f) (first + e) (pos 0)) → Adds s t (BeforeKept es first e f)
before_entered {es} first {e} {f} is one = adds_like one (λ z. (λ h d. omega (arith, ints), λ h. omega (arith, ints, h ((decides_before es e f).0 is))))

pub drift_entered : {s t : Bounds} (b : BookValue) (working first e f : ℕ) → Adds s t (AtMost (first + f) (first + e) (pos (drift_of b (ltb e working) (ltb f working)))) → Adds s t (DriftKept b working first e f)
drift_entered b working first e f one = adds_like one (λ z. (λ h. omega (arith, ints), λ h. omega (arith, ints)))

-- the first place of a station is one
same_first : (l : List ℕ) (p e f : ℕ) → FirstOn l p (Some e) → FirstOn l p (Some f) → e ≡ f
same_first l p e f one two = elim (dec_lt e f) [
  | yes h ↦ absurd (two.2 e h one.1)
  | no h ↦ elim (dec_lt f e) [ yes g ↦ absurd (one.2 f g two.1) | no g ↦ omega arith ]
]

pub crossing_entered : {s t : Bounds} {i : Interval} (events : List ℕ) (stations : ℕ) {p f x y : ℕ} → FirstOn events p (Some f) → x ≡ p → y ≡ stations + f → Adds s t (λ z. Within i (z x) (z y)) → Adds s t (CrossingKept i events stations p)
crossing_entered {i} events stations {p} {f} found ex ey one =
    adds_like one (λ z. (
      λ h g other. subst₂ (λ a b. Within i (z a) (z b)) ex (ey ∙ ap (λ k. stations + k) (same_first events p f g found other)) h,
      λ h. subst₂ (λ a b. Within i (z a) (z b)) (sym ex) (sym ey) (h f found),
    ))
