-- The range of a profile's entries.
use Rattle.std.specs.Prelude.{ℕ, ◌<◌, List, ℤ, pos, ◌+ℤ◌, ◌≤ℤ◌, slice_index_or}

-- an entry is within 10,000 of 0
abbrev pub SmallEntry : ℤ → Type 0
SmallEntry z = (z ≤ℤ pos 10000) × (pos 0 ≤ℤ (z +ℤ pos 10000))

-- each of the 64 entries is
abbrev pub InRange : List ℤ → Type 0
InRange a = (k : ℕ) → k < 64 → SmallEntry (slice_index_or a k (pos 0))
