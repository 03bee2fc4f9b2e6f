use Rattle.std.proofs.Common.{arith}
use Rattle.report.proofs.Short.{refusal_short}
use Rattle.report.proofs.notices.notice.Goals as goal

pub write-requires : goal.write-requires
write-requires c = refusal_short c.from.result (omega arith) (omega arith) (omega arith)
