-- The records of a book as parts of its bytes.
use Rattle.std.specs.Prelude.{◌≡◌, ℕ, ◌+◌, ◌<◌, ◌≤◌, List, length, take, drop, Ok, Err, Result, slice_index}
use Rattle.std.specs.Borrow.{Bor}
use Rattle.bookformat.specs.declared.fault.Fault.{Fault}
use Rattle.bookformat.specs.declared.fault.Fault.TheVariants.{RecordCut}
use Rattle.bookformat.specs.Layout.{byte}

-- the `len` bytes at a place, where they lie wholly in the book
abbrev pub Handed : List ℕ → ℕ → ℕ → Result (Bor (List ℕ)) Fault → Type 0
Handed book place len (Ok part) = (place + len ≤ length book) × (part.now ≡ take len (drop place book))
Handed book place len (Err f) = (length book < place + len) × (f ≡ RecordCut place)

-- the same, byte by byte
abbrev pub Told : List ℕ → ℕ → ℕ → Result (Bor (List ℕ)) Fault → Type 0
Told book place len (Ok part) = (place + len ≤ length book) × (length part.now ≡ len) × ((k : ℕ) → k < len → slice_index part.now k ≡ byte book (place + k))
Told book place len (Err f) = (length book < place + len) × (f ≡ RecordCut place)
