use Rattle.std.proofs.Common.{refl}
use Rattle.routes.proofs.Placing.{stands_more, stands_whole}
use Rattle.routes.proofs.path.is_path.Goals as goal

pub loop-link-preserved : goal.loop-link-preserved
loop-link-preserved c = λ b first all.
    stands_more b c.args.links.now c.loop-link.link-index c.loop-link.at c.from.result c.in-Some.link.now (c.loop-link.invariant b first all) c.from.ensures ((c.in-Some.ensures.leaves b all).0 refl) (c.in-Some.ensures.link b all)

pub returns : goal.returns
returns c = λ b first all. (λ _. stands_whole b c.args.links.now c.loop-link.link-index c.loop-link.at (c.loop-link.invariant b first all) c.loop-link-test.false, λ _. refl)
