-- A profile that says nothing of any station.
use Rattle.std.specs.Prelude.{[]}
use Rattle.profile.specs.declared.Profile.{Profile}

-- what stands where no profile is held
abbrev pub no_profile : Profile
no_profile = record { entries = [] }
