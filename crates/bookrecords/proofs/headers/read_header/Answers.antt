use Rattle.bookformat.specs.Reading.{mark_tests, header_tests}
use Rattle.bookformat.proofs.Faults.{fault_left}
use Rattle.bookrecords.proofs.Exits.{hands_on}
use Rattle.bookrecords.proofs.headers.read_header.Goals as goal

pub returns-in_err-check_mark : goal.returns-in_err-check_mark
returns-in_err-check_mark g c =
    let b = c.args.book.now in
    hands_on c.from_residual-in_err-check_mark.result _ _ c.in_err-check_mark.field-0.0 c.from_residual-in_err-check_mark.ensures.1
    (fault_left (mark_tests b) (header_tests b) _ c.in_err-check_mark.ensures)
