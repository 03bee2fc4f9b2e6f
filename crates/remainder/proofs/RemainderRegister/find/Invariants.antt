use Rattle.std.proofs.Common.{vec_len}
use Rattle.rowstore.specs.Of.{store_rows}
use Rattle.remainder.proofs.Chains.{reach, Ahead}
use Rattle.remainder.proofs.RemainderRegister.find.Given as goal

abbrev pub invariant-loop-link : goal.invariant-loop-link
invariant-loop-link l = ∥ Ahead (vec_len l.self.heads) (store_rows l.self.store) l.class l.link ∥₁

abbrev pub decreases-loop-link : goal.decreases-loop-link
decreases-loop-link l = reach l.link
