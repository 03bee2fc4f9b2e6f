-- Lists whose entries are in range.
use Rattle.std.proofs.Common.{replicate, ℤ, pos, negsuc, sym, subst, arith, w16, SFits}
use lib.ListN.{get_or-replicate}
use Rattle.std.proofs.lemmas.Int.{ints}
use Rattle.profile.specs.Ranges.{SmallEntry, InRange}

pub small_fits : (z : ℤ) → SmallEntry z → SFits w16 z
small_fits (pos n) s = record { sfits = omega (arith, ints, s.0) }
small_fits (negsuc n) s = record { sfits = omega (arith, ints, s.1) }

pub zeros_in_range : InRange (replicate 64 (pos 0))
zeros_in_range k h = subst SmallEntry (sym (get_or-replicate 64 k (pos 0) (pos 0) h)) (record { le = tt }, record { le = tt })
