use Rattle.std.proofs.Common.{◌≡◌, ◌≢◌, rules, sym, subst}
use Rattle.std.proofs.lemmas.Iterator.{IsFirst-from_position, YieldsList-from_slice}
use Rattle.bookformat.specs.Books.{book_value}
use Rattle.walk.specs.Trying.{FirstFrom}
use Rattle.walk.proofs.Seeking.{first_found, first_none}
use Rattle.walk.proofs.pairs.link_from.Goals as goal

pub returns-in_err-ahead : goal.returns-in_err-ahead
returns-in_err-ahead c =
    let none = IsFirst-from_position _ _ _ (λ l. l.from ≡ c.args.chart) (λ l. l.from ≢ c.args.chart) c.in_err-ahead.ensures.ran (YieldsList-from_slice c.in_ok-links.links.now cc) (λ x q k. search rules) (λ x q k. search rules) in
    let look = c.in_ok-links.ensures.lookup.0 in
    subst (FirstFrom (book_value c.args.book.now) c.args.chart c.args.start) (sym c.from_residual-in_err-ahead.ensures)
    (first_none (book_value c.args.book.now) c.deref.result.now c.in_ok-links.links.now c.args.chart c.args.start c.deref.ensures.0 look.2 look.3 none)

pub returns : goal.returns
returns c =
    let found = IsFirst-from_position _ _ _ (λ l. l.from ≡ c.args.chart) (λ l. l.from ≢ c.args.chart) c.in_ok-ahead.ensures.ran (YieldsList-from_slice c.in_ok-links.links.now cc) (λ x q k. search rules) (λ x q k. search rules) in
    let look = c.in_ok-links.ensures.lookup.0 in
    first_found (book_value c.args.book.now) c.deref.result.now c.in_ok-links.links.now c.args.chart c.args.start c.deref.ensures.0 look.2 look.3 c.in_ok-ahead.ahead found
