-- What `==` of profiles decides.
use Rattle.std.specs.Prelude.{◌≡◌, Decides}
use Rattle.std.specs.Ordering.{int_eq}
use Rattle.std.specs.Cmp.Lexicographic.{pointwise}
use Rattle.profile.specs.declared.Profile.{Profile}

-- the entries are equal one by one exactly where the profiles are the same
abbrev pub EqualityLaw : Type 0
EqualityLaw = (a b : Profile) → Decides (pointwise int_eq a.entries b.entries) (a ≡ b)
