-- The smallest book.
use Rattle.std.specs.Prelude.{false, [], ◌∷◌}
use Rattle.bookformat.specs.declared.value.Kind.TheVariants.{Send, Receive}
use Rattle.bookformat.specs.Values.{ChartValue, BookValue}

-- a message from station 0 to 1
abbrev pub smallest_chart : ChartValue
smallest_chart = record {
  events = record { station = 0; kind = Send; pair = 1 } ∷ record { station = 1; kind = Receive; pair = 0 } ∷ [];
  constraints = [];
  final = false;
}

-- two stations, one chart and no link
abbrev pub smallest_book : BookValue
smallest_book = record { stations = 2; first = 0; near = 0; far = 0; charts = smallest_chart ∷ []; links = [] }
