-- What ties the tests to the rules.
use Rattle.std.specs.Prelude.{◌≡◌, ℕ, ◌<◌, List, None, slice_index}
use Rattle.bookformat.specs.Values.{BookValue}
use Rattle.bookformat.specs.Encoding.{encode}
use Rattle.bookformat.specs.Rules.{GoodBook}
use Rattle.bookformat.specs.Layout.{book_at}
use Rattle.bookformat.specs.Reading.{fault}

-- each number is a byte
abbrev pub Octets : List ℕ → Type 0
Octets b = (i : ℕ) → slice_index b i < 256

-- bytes that pass every test are those of a good book
abbrev pub TakenGood : Type 0
TakenGood = (b : List ℕ) → Octets b → fault b ≡ None → (encode (book_at b) ≡ b) × GoodBook (book_at b)

-- the bytes of a good book pass every test
abbrev pub GoodTaken : Type 0
GoodTaken = (v : BookValue) → GoodBook v → fault (encode v) ≡ None

-- a good book is what its bytes say, so no two good books have the same bytes
abbrev pub GoodRead : Type 0
GoodRead = (v : BookValue) → GoodBook v → book_at (encode v) ≡ v
