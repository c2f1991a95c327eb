use Rattle.std.proofs.Common.{◌≡◌, drop}
use Rattle.seen_memory.specs.Seen.{first_snooped}
use Rattle.seen_memory.proofs.buffers.snoop_all.Given as goal

abbrev pub invariant-loop-buffer : goal.invariant-loop-buffer
invariant-loop-buffer l = first_snooped l.buffers l.at ≡ first_snooped (drop l.buffer-index l.buffers) l.at
