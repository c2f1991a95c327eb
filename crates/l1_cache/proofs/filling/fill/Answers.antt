use Rattle.std.proofs.Common.{arith}
use Rattle.l1_cache.proofs.Copying.{nothing_copied, one_more_copied}
use Rattle.l1_cache.proofs.filling.fill.Goals as goal

pub loop-k-init : goal.loop-k-init
loop-k-init c = nothing_copied c.args.line c.args.storage.now c.args.bytes.now

pub loop-k-preserved : goal.loop-k-preserved
loop-k-preserved c =
    one_more_copied c.loop-k.k c.args.line c.args.storage.now c.args.bytes.now c.loop-k.bytes c.copy_byte.new.bytes
    c.loop-k.invariant (omega arith) (omega arith) (omega arith) c.copy_byte.ensures
