use Rattle.std.proofs.Common.{◌≡◌, [], ◌∷◌, map, rules}
use Rattle.bookformat.specs.Values.{chart_value}
use Rattle.bookformat.specs.Smallest.{smallest_chart}
use Rattle.bookformat.proofs.Smallest.{smallest_is}
use Rattle.bookformat.proofs.book.Book.smallest.Goals as goal

pub invariant_of-result : goal.invariant_of-result
invariant_of-result c =
    let charts : map chart_value c.push-3.new.self.items ≡ smallest_chart ∷ [] = search rules in
    record { good = smallest_is c.push-3.new.self.items c.default.result.items charts c.default.ensures }
