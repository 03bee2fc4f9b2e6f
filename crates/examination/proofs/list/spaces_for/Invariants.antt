use Rattle.std.proofs.Common.{◌≡◌, take}
use Rattle.history.specs.Histories.{spaces}
use Rattle.examination.proofs.list.spaces_for.Given as goal

abbrev pub invariant-loop-call : goal.invariant-loop-call
invariant-loop-call l = l.total ≡ spaces (take l.call-index l.calls)
