use Rattle.std.proofs.Common.{◌≡◌, ◌≤◌, take}
use Rattle.arrayvec.specs.ArrayVec.{array_vec_len}
use Rattle.bookformat.specs.Books.{book_value}
use Rattle.routes.specs.Stops.{StandsAt}
use Rattle.judge.proofs.path.parse_path.Given as goal

abbrev pub invariant-loop-position : goal.invariant-loop-position
invariant-loop-position l =
    StandsAt (book_value l.book) l.links l.position l.at × (l.numbers.items ≡ take l.position l.links) × (array_vec_len l.numbers ≡ l.position) × (l.position ≤ 4095)
