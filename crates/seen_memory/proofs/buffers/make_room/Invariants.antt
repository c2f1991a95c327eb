use Rattle.std.proofs.Common.{length}
use Rattle.seen_memory.specs.Seen.{committed_at}
use Rattle.seen_memory.specs.Draining.{Drained}
use Rattle.seen_memory.proofs.buffers.make_room.Given as goal

abbrev pub invariant-loop-buffers : goal.invariant-loop-buffers
invariant-loop-buffers l = Drained l.k l.fn.buffers l.fn.storage l.buffers l.storage

abbrev pub decreases-loop-buffers : goal.decreases-loop-buffers
decreases-loop-buffers l = length (committed_at l.buffers l.k)
