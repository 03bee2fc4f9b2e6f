use Rattle.std.proofs.Common.{◌≡◌, ℕ, ◌+◌, ◌*◌, ◌<◌, length, get_or, None}
use Rattle.bookformat.specs.Layout.{interval_at}
use Rattle.bookformat.specs.Rules.{unbounded}
use Rattle.bookformat.specs.Reading.{first_fault, each, station_tests, is_apart}
use Rattle.chartbook.proofs.links.read_intervals.Given as goal

abbrev pub invariant-loop-station : goal.invariant-loop-station
invariant-loop-station l =
    (first_fault (each (λ p. station_tests (interval_at l.part (2 + 4 * p)) (is_apart l.stations l.before l.after p) l.place) l.station) ≡ None)
    × ((k : ℕ) → k < l.station → get_or l.interval-items k unbounded ≡ interval_at l.part (2 + 4 * k))
    × (length l.interval-items ≡ 8)
