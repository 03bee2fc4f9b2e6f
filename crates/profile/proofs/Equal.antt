-- What `==` says of two profiles.
use Rattle.std.proofs.Common.{◌≡◌, Decides, refl, ap}
use Rattle.std.specs.Ordering.{int_eq}
use Rattle.std.specs.Cmp.Lexicographic.{pointwise}
use Rattle.std.proofs.lemmas.Bool.Decides.{Decides-int_eq, Decides-like}
use Rattle.std.proofs.lemmas.Slice.Eq.{slice_eq-Decides}
use Rattle.profile.specs.declared.Profile.{Profile}

pub profile_eq_decides : (a b : Profile) → Decides (pointwise int_eq a.entries b.entries) (a ≡ b)
profile_eq_decides a b =
    Decides-like _ (λ e i. record { entries = e i }) (ap (λ (p : Profile). p.entries))
    (slice_eq-Decides Decides-int_eq a.entries b.entries _ refl)
