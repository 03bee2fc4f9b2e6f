-- The header out of the bytes of its record.
use Rattle.std.proofs.Common.{◌≡◌, ℕ, ◌+◌, ◌*◌, ◌<◌, ◌≤◌, List, length, get_or, Result, subst, arith}
use Rattle.bookformat.specs.declared.fault.Fault.{Fault}
use Rattle.bookformat.specs.Layout.{byte}
use Rattle.bookformat.specs.Reading.{header_fields, header_tests}
use Rattle.bookrecords.specs.declared.fields.Header.{Header}
use Rattle.bookrecords.specs.Answers.{Tested}
use Rattle.bookrecords.specs.Headers.{header_at}
use Rattle.bookrecords.proofs.Exits.{in_book}

abbrev fields_of : Header → List Rattle.bookformat.specs.Reading.Test
fields_of h = header_fields h.stations h.charts h.first h.links h.near h.far

pub header_read : (b part : List ℕ) (given : Header) (r : Result Header Fault) → 13 ≤ length b → ((k : ℕ) → k < 8 → get_or part k 0 ≡ byte b (5 + k)) → given ≡ record { stations = get_or part 0 0; charts = get_or part 1 0; first = get_or part 2 0; links = get_or part 3 0; near = get_or part 4 0 * 256 + get_or part 5 0; far = get_or part 6 0 * 256 + get_or part 7 0 } → Tested r (fields_of given) (λ h. h ≡ given) → Tested r (header_tests b) (λ h. h ≡ header_at b)
header_read b part given r h bytes is t =
    let e0 : get_or part 0 0 ≡ byte b 5 = bytes 0 (omega arith) in
    let e1 : get_or part 1 0 ≡ byte b 6 = bytes 1 (omega arith) in
    let e2 : get_or part 2 0 ≡ byte b 7 = bytes 2 (omega arith) in
    let e3 : get_or part 3 0 ≡ byte b 8 = bytes 3 (omega arith) in
    let e4 : get_or part 4 0 ≡ byte b 9 = bytes 4 (omega arith) in
    let e5 : get_or part 5 0 ≡ byte b 10 = bytes 5 (omega arith) in
    let e6 : get_or part 6 0 ≡ byte b 11 = bytes 6 (omega arith) in
    let e7 : get_or part 7 0 ≡ byte b 12 = bytes 7 (omega arith) in
    let at : given ≡ header_at b = cc in
    in_book r b 5 8 (fields_of (header_at b)) (λ x. x ≡ header_at b) h (subst (λ (g : Header). Tested r (fields_of g) (λ x. x ≡ g)) at t)
