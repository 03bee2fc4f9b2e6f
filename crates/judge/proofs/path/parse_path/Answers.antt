use Rattle.std.proofs.Common.{ℕ, List, [], ◌∷◌, ◌++◌, get_or, refl, sym, ap, ◌∙◌, subst, arith, rules}
use Rattle.std.proofs.lemmas.List.{take_more}
use Rattle.std.proofs.lemmas.Bool.{false≢true}
use Rattle.bookformat.specs.declared.value.Link.{Link}
use Rattle.bookformat.specs.Books.{book_value}
use Rattle.bookformat.proofs.Known.{is_good}
use Rattle.paths.specs.Paths.{Leaves}
use Rattle.judge.specs.Walking.{fault, fine}
use Rattle.judge.proofs.Faults.{link_fails, count_fails, all_go_on, goes_further}
use Rattle.judge.proofs.path.parse_path.Goals as goal

pub returns-then-is_full-clause-checked : goal.returns-then-is_full-clause-checked
returns-then-is_full-clause-checked c =
    let k = c.loop-position.position in
    fault k (count_fails (book_value c.args.book.now) c.args.links.now k c.loop-position.at c.loop-position.invariant.0 c.loop-position.invariant.3 c.loop-position-test.true (search rules)) refl

pub returns-in_default-clause-checked : goal.returns-in_default-clause-checked
returns-in_default-clause-checked c =
    let b = book_value c.args.book.now in
    let k = c.loop-position.position in
    fault k (link_fails b c.args.links.now k c.loop-position.at c.loop-position.invariant.0 c.loop-position.invariant.3 c.loop-position-test.true (λ leaves. false≢true (c.in_default.ensures.leaves.1 (subst (Leaves b c.loop-position.at) (sym c.from.ensures) leaves)))) refl

pub overflow_cast-number : goal.overflow_cast-number
overflow_cast-number c = omega (arith, (is_good c.args.book.now).links_most, (c.in-Some.ensures.leaves.0 refl).0, c.from.ensures)

pub loop-position-preserved : goal.loop-position-preserved
loop-position-preserved c = (
  goes_further (book_value c.args.book.now) c.args.links.now c.loop-position.position c.loop-position.at c.from.result c.in-Some.link.now.to c.loop-position.invariant.0 c.from.ensures (c.in-Some.ensures.leaves.0 refl) (ap (λ (l : Link). l.to) c.in-Some.ensures.link),
  c.push.ensures.items ∙ ap (λ (l : List ℕ). l ++ get_or c.args.links.now c.loop-position.position 0 ∷ []) c.loop-position.invariant.1 ∙ sym (take_more c.args.links.now c.loop-position.position 0 c.loop-position-test.true),
  omega (arith, c.push.ensures.len, c.loop-position.invariant.2),
  search rules,
)

pub returns-clause-checked : goal.returns-clause-checked
returns-clause-checked c = fine c.loop-position.numbers (all_go_on (book_value c.args.book.now) c.args.links.now c.loop-position.position c.loop-position.at c.loop-position.invariant.0 c.loop-position.invariant.3 c.loop-position-test.false) refl
