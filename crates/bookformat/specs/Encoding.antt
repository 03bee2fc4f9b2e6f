-- The bytes of a book, record by record.
use Rattle.std.specs.Prelude.{ℕ, ◌/◌, ◌%◌, Bool, true, false, List, [], ◌∷◌, ◌++◌, length, Some, None, Option}
use Rattle.bookformat.specs.declared.value.Kind.{Kind}
use Rattle.bookformat.specs.declared.value.Kind.TheVariants.{Send, Receive}
use Rattle.bookformat.specs.declared.value.Event.{Event}
use Rattle.bookformat.specs.declared.value.Interval.{Interval}
use Rattle.bookformat.specs.declared.value.Constraint.{Constraint}
use Rattle.bookformat.specs.declared.value.Link.{Link}
use Rattle.bookformat.specs.Values.{ChartValue, BookValue}

-- 16 bits, the high byte first
abbrev pub two : ℕ → List ℕ
two n = n / 256 ∷ n % 256 ∷ []

-- the bytes of each item, one after the other
abbrev pub joined : {X : Type 0} → (X → List ℕ) → List X → List ℕ
joined f [] = []
joined f (x ∷ xs) = f x ++ joined f xs

abbrev pub kind_byte : Kind → ℕ
kind_byte Send = 0x21
kind_byte Receive = 0x3f

-- an upper end; all bits set where there is none
abbrev pub end_bits : Option ℕ → ℕ
end_bits (Some u) = u
end_bits None = 0xffff

abbrev pub final_byte : Bool → ℕ
final_byte true = 1
final_byte false = 0

abbrev pub interval_bytes : Interval → List ℕ
interval_bytes i = two i.lower ++ two (end_bits i.upper)

abbrev pub event_bytes : Event → List ℕ
event_bytes e = e.station ∷ kind_byte e.kind ∷ e.pair ∷ []

abbrev pub constraint_bytes : Constraint → List ℕ
constraint_bytes c = c.first ∷ c.second ∷ interval_bytes c.interval

abbrev pub chart_bytes : ChartValue → List ℕ
chart_bytes c =
    length c.events ∷ length c.constraints ∷ final_byte c.final ∷ (joined event_bytes c.events ++ joined constraint_bytes c.constraints)

abbrev pub link_bytes : Link → List ℕ
link_bytes l = l.from ∷ l.to ∷ joined interval_bytes l.intervals

-- the letters TCM and the version, 1
abbrev pub mark_bytes : List ℕ
mark_bytes = 0x54 ∷ 0x43 ∷ 0x4d ∷ 0 ∷ 1 ∷ []

abbrev pub header_bytes : BookValue → List ℕ
header_bytes b = b.stations ∷ length b.charts ∷ b.first ∷ length b.links ∷ (two b.near ++ two b.far)

abbrev pub encode : BookValue → List ℕ
encode b = mark_bytes ++ (header_bytes b ++ (joined chart_bytes b.charts ++ joined link_bytes b.links))
