-- A profile is its entries.
use Rattle.std.proofs.Common.{◌≡◌}
use Rattle.profile.specs.declared.Profile.{Profile}

pub profile_same : (a b : Profile) → a.entries ≡ b.entries → a ≡ b
profile_same a b e = λ i. record { entries = e i }
