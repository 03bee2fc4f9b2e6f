-- How the rows of a register are found by the remainder of a sum over their numbers.
use Rattle.std.specs.Prelude.{◌≡◌, ℕ, ◌+◌, ◌*◌, ◌%◌, ◌^◌, ◌<◌, List, length, ℤ, Some, None, fold, Option, ◌≢◌, slice_index_or}
use Rattle.std.specs.Int.{w64}
use Rattle.std.proofs.Common.{of_z}
use Rattle.register.specs.declared.row.Class.{Class}
use Rattle.register.specs.declared.row.Row.{Row}
use Rattle.register.specs.Meaning.{row_at}

-- one more entry in a sum modulo 2 ^ 64
abbrev pub summed : ℕ → ℤ → ℕ
summed sum entry = ((sum * 10007) % 2 ^ 64 + of_z w64 entry) % 2 ^ 64

abbrev pub class_sum : Class → ℕ
class_sum class = fold summed class.chart class.profile.entries

-- the chain, of n, that a row belongs to
abbrev pub in_chain : ℕ → Class → ℕ
in_chain n class = class_sum class % n

abbrev pub chain_at : ℕ → List Row → ℕ → ℕ
chain_at n rows i = in_chain n (row_at rows i).class

-- Over the chains that places belong to: a link names the last place below `end` in chain b, or nothing if there is none.
abbrev pub Links : (ℕ → ℕ) → ℕ → ℕ → Option ℕ → Type 0
Links at b end None = (k : ℕ) → k < end → at k ≢ b
Links at b end (Some i) = (i < end) × (at i ≡ b) × ((k : ℕ) → i < k → k < end → at k ≢ b)

-- Of n chains, `heads` has a link to the last row of each, and `next` has for each row a link to the one before it in its chain.
-- No two rows have one class.
pub record Chained (n : ℕ) (rows : List Row) (heads next : List (Option ℕ)) : Type 0 where
  pub begin : (b : ℕ) → b < n → Links (chain_at n rows) b (length rows) (slice_index_or heads b None)
  pub follow : (i : ℕ) → i < length rows → Links (chain_at n rows) (chain_at n rows i) i (slice_index_or next i None)
  pub apart : (i j : ℕ) → i < j → j < length rows → (row_at rows i).class ≢ (row_at rows j).class
