use Rattle.profile.proofs.Equal.{profile_eq_decides}
use Rattle.profile.proofs.equality.equality_decides.Goals as goal

pub returns : goal.returns
returns c = profile_eq_decides
