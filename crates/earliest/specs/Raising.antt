-- Dates that rise where something is asked of them.
use Rattle.std.specs.Prelude.{◌≡◌, ℕ, ◌+◌, ◌-◌, ◌^◌, ◌<◌, ◌≤◌, min, Bool, true, false, List, length, Some, None, sum, Option, slice_index}

-- the date at a place of the list
abbrev pub date_at : List ℕ → ℕ → ℕ
date_at l k = slice_index l k

-- no date is above that of z
abbrev pub Below : List ℕ → (ℕ → ℕ) → Type 0
Below l z = (k : ℕ) → k < length l → date_at l k ≤ z k

-- each date fits 32 bits with room for any interval's end
abbrev pub Small : List ℕ → Type 0
Small l = (k : ℕ) → k < length l → date_at l k ≤ 81910000

-- each date fits 32 bits
abbrev pub Fitting : List ℕ → Type 0
Fitting l = (k : ℕ) → k < length l → date_at l k < 2 ^ 32

-- Dates have risen where the demand K was not kept, and stay below all dates z that keep the demand A
pub record Rises (A K : (ℕ → ℕ) → Type 0) (before after : List ℕ) (changed : Bool) : Type 0 where
  pub long : length after ≡ length before
  pub under : (z : ℕ → ℕ) → A z → Below before z → Below after z
  -- unchanged dates keep the demand
  pub same : changed ≡ false → after ≡ before
  pub kept : changed ≡ false → Small before → K (date_at before)
  -- changed ones have a greater sum
  pub more : changed ≡ true → sum before < sum after
  pub fits : Fitting before → Fitting after

-- both are one demand
abbrev pub Raises : ((ℕ → ℕ) → Type 0) → List ℕ → List ℕ → Bool → Type 0
Raises K before after changed = Rises K K before after changed

-- the least date that is so many ticks after another: the greatest number of 32 bits, where that is beyond them
abbrev pub later : ℕ → ℕ → ℕ
later date ticks = min (date + ticks) (2 ^ 32 - 1)

-- the least date that is at most so many ticks before another, 0 where there is no such limit
abbrev pub sooner : ℕ → Option ℕ → ℕ
sooner date None = 0
sooner date (Some ticks) = date - ticks
