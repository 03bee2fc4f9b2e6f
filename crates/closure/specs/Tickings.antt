-- The kind ticks: a whole number, or none.
use Rattle.std.specs.Prelude.{◌≡◌, ℕ, ◌*◌, Bool, true, false, cond, ℤ, pos, ◌+ℤ◌, ◌≤ℤ◌, Some, None, Option, Ok, Err, Result, int_lt}
use Rattle.closure.specs.Kinds.{Kind, Meaning}
use Rattle.closure.specs.declared.kinds.Ticks.{Ticks}
use Rattle.closure.specs.declared.kinds.TooFar.{TooFar}

-- a smaller number is better, and a number better than none
abbrev pub fewer : Option ℤ → Option ℤ → Bool
fewer (Some a) (Some b) = int_lt a b
fewer (Some a) None = true
fewer None b = false

-- the sum, if both are numbers
abbrev pub plus : Option ℤ → Option ℤ → Option ℤ
plus (Some a) (Some b) = Some (a +ℤ b)
plus (Some a) None = None
plus None b = None

-- z is at most m away from 0
abbrev pub WithinTicks : ℕ → ℤ → Type 0
WithinTicks m z = (z ≤ℤ pos m) × (pos 0 ≤ℤ (z +ℤ pos m))

-- each link given has at most 10,000 ticks, forward or back
abbrev pub ticks_reach : ℕ → Option ℤ → Type 0
ticks_reach m (Some a) = WithinTicks (10000 * m) a
ticks_reach m None = Unit {0}

abbrev pub ticks : Kind (Option ℤ)
ticks = record { better = fewer; follow = plus; unit = Some (pos 0); none = None; reach = ticks_reach }

-- the largest number of 32 bits stands for none, any other for itself
abbrev pub ticks_value : Ticks → Option ℤ
ticks_value t = cond (int_lt t.count (pos 2147483647)) (Some t.count) None

-- what is made of the number z: ticks that mean it, if it is near enough to be given
abbrev pub MakesTicks : ℤ → Result Ticks TooFar → Type 0
MakesTicks z (Ok t) = WithinTicks 10000 z × (ticks_value t ≡ Some z)
MakesTicks z (Err _) = WithinTicks 10000 z → ⊥

abbrev pub ticks_meaning : Meaning Ticks
ticks_meaning = record { Value = Option ℤ; value = ticks_value; kind = ticks }
