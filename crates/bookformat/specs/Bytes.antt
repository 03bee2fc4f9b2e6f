-- What a byte says of an event's kind.
use Rattle.std.specs.Prelude.{◌≡◌, ℕ, true, false, Ok, Err, Result}
use Rattle.bookformat.specs.declared.value.Kind.{Kind}
use Rattle.bookformat.specs.declared.bytes.UnknownKind.{UnknownKind}
use Rattle.bookformat.specs.Layout.{kind_of}
use Rattle.bookformat.specs.Reading.{is_kind}

-- the kind for which the byte stands, if it stands for one
abbrev pub SaysKind : ℕ → Result Kind UnknownKind → Type 0
SaysKind k (Ok kind) = (is_kind k ≡ true) × (kind ≡ kind_of k)
SaysKind k (Err _) = is_kind k ≡ false
