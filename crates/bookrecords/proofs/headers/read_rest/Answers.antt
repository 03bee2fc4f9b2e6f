use Rattle.std.proofs.Common.{get_or}
use Rattle.bookrecords.specs.declared.fields.Header.{Header}
use Rattle.bookrecords.proofs.HeaderTests.{header_read}
use Rattle.bookrecords.proofs.headers.read_rest.Goals as goal

pub returns : goal.returns
returns g c =
    let h = c.in_ok-part.ensures in
    let part = c.in_ok-part.part.now in
    let e1 = c.from.ensures in
    let e2 = c.from-2.ensures in
    let e3 = c.from_be_bytes.ensures in
    let e4 = c.from_be_bytes-2.ensures in
    let given : Header = record { stations = get_or part 0 0; charts = c.from.result; first = get_or part 2 0; links = c.from-2.result; near = c.from_be_bytes.result; far = c.from_be_bytes-2.result } in
    header_read c.args.book.now part given c.tested.result h.0 h.2 (cc) c.tested.ensures
