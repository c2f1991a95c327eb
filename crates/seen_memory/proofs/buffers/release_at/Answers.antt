use Rattle.seen_memory.proofs.Groups.{release_step}
use Rattle.seen_memory.proofs.buffers.release_at.Goals as goal

pub returns : goal.returns
returns c = λ b is.
    release_step c.args.buffers.now c.args.i c.index-buffers-i.result c.release.new.self c.requires c.release.ensures.committed c.release.ensures.held b is
