-- What the header says.
use Rattle.std.specs.Prelude.{ℕ, List}
use Rattle.bookformat.specs.Layout.{byte, word}
use Rattle.bookrecords.specs.declared.fields.Header.{Header}

abbrev pub header_at : List ℕ → Header
header_at b = record { stations = byte b 5; charts = byte b 6; first = byte b 7; links = byte b 8; near = word b 9; far = word b 11 }
