use Rattle.std.proofs.Common.{arith}
use Rattle.general_move.proofs.Merging.{merged_is}
use Rattle.general_move.proofs.bytes.merge.Goals as goal

pub returns : goal.returns
returns c =
    merged_is c.args.op _ _ c.loop-i.first c.requires.same (omega arith)
    (λ k h. c.loop-i.invariant.done k (omega arith))
