-- The kind before: linked or not.
use Rattle.std.specs.Prelude.{Bool, true, false}
use Rattle.closure.specs.Kinds.{Kind, Meaning}
use Rattle.closure.specs.declared.kinds.Before.{Before}
use Rattle.closure.specs.declared.kinds.Before.TheVariants.{Linked, Unlinked}

-- linked is better than not
abbrev pub better_linked : Before → Before → Bool
better_linked Linked Linked = false
better_linked Linked Unlinked = true
better_linked Unlinked b = false

-- linked if both are
abbrev pub both_linked : Before → Before → Before
both_linked Linked b = b
both_linked Unlinked b = Unlinked

abbrev pub before : Kind Before
before = record { better = better_linked; follow = both_linked; unit = Linked; none = Unlinked; reach = λ m b. Unit {0} }

abbrev pub before_meaning : Meaning Before
before_meaning = record { Value = Before; value = λ b. b; kind = before }
