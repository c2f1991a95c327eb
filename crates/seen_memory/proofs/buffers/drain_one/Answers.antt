use Rattle.seen_memory.proofs.Groups.{drain_ready, drain_step, drain_own, now_of}
use Rattle.seen_memory.proofs.buffers.drain_one.Goals as goal

pub drain-requires : goal.drain-requires
drain-requires c = drain_ready c.args.buffers.now c.args.k c.args.storage.now c.index-buffers-k.result c.requires.kept c.requires.known

pub returns-clause-drained : goal.returns-clause-drained
returns-clause-drained c =
    drain_step c.args.buffers.now c.args.k c.args.storage.now c.drain.new.self c.index-buffers-k.result c.drain.new.buffer c.requires.kept c.requires.known
    c.drain.ensures.committed c.drain.ensures.held c.drain.ensures.stored

pub returns-clause-own : goal.returns-clause-own
returns-clause-own c = drain_own c.args.buffers.now c.args.k c.index-buffers-k.result c.drain.new.buffer c.requires.known c.drain.ensures.committed

pub returns-clause-some : goal.returns-clause-some
returns-clause-some c = rw (now_of c.args.buffers.now c.args.k c.index-buffers-k.result c.requires.known) c.drain.ensures.some
