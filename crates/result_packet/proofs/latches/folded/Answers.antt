use Rattle.std.proofs.Common.{arith, ◌%◌}
use Rattle.esa_model.specs.Latch.{ones_of}
use Rattle.result_packet.proofs.Ones.{folded_more}
use Rattle.result_packet.proofs.latches.folded.Goals as goal

pub loop-byte-preserved : goal.loop-byte-preserved
loop-byte-preserved c =
    folded_more c.loop-byte.all c.args.bytes.now c.loop-byte.byte-index
    (ones_of c.args.bytes.now % 2) (omega arith) c.loop-byte.invariant
