use Rattle.seen_memory.proofs.Groups.{now_read, held_read}
use Rattle.seen_memory.proofs.buffers.free_at.Goals as goal

pub returns : goal.returns
returns c =
    rw (now_read c.args.buffers.now c.args.k c.index-buffers-k.result c.requires c.index-buffers-k.is, held_read c.args.buffers.now c.args.k c.index-buffers-k.result c.requires c.index-buffers-k.is)
    c.free.ensures
