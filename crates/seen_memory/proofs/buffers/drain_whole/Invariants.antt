use Rattle.std.proofs.Common.{length}
use Rattle.seen_memory.specs.Seen.{committed_at}
use Rattle.seen_memory.specs.Draining.{Drained}
use Rattle.seen_memory.proofs.buffers.drain_whole.Given as goal

abbrev pub invariant-loop : goal.invariant-loop
invariant-loop l = Drained l.k l.fn.buffers l.fn.storage l.buffers l.storage

abbrev pub decreases-loop : goal.decreases-loop
decreases-loop l = length (committed_at l.buffers l.k)
