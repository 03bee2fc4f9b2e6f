use Rattle.std.proofs.Common.{ℕ, ◌^◌, ◌<◌, arith}
use Rattle.std.proofs.lemmas.List.Elements.{All-from_get_or}
use Rattle.bookformat.specs.Books.{book_value}
use Rattle.bookformat.proofs.Known.{is_good}
use Rattle.report.proofs.Short.{report_short}
use Rattle.report.proofs.found.write_path.Goals as goal

pub write-requires : goal.write-requires
write-requires c =
    let P : ℕ → Type 0 = λ date. date < 2 ^ 64 in
    let path = c.args.path.now in
    let dates = c.args.dates.now in
    report_short (book_value path.book.now) path.links.now dates (record { good = is_good path.book.now; is_path = path.path; few = path.few }) (All-from_get_or P dates 0 (λ i _. omega (arith, c.type_inv.dates i)))
