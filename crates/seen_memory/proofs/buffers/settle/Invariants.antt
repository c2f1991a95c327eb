use Rattle.seen_memory.specs.Draining.{Settled}
use Rattle.seen_memory.proofs.buffers.settle.Given as goal

abbrev pub invariant-loop-k : goal.invariant-loop-k
invariant-loop-k l = Settled l.i l.k l.fn.buffers l.fn.storage l.buffers l.storage
