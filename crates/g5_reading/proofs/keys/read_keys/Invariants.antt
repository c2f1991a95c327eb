use Rattle.std.proofs.Common.{◌+◌, ◌-◌, vec_len}
use Rattle.g5_reading.proofs.ReadLoop.{TakenSoFar}
use Rattle.g5_reading.proofs.keys.read_keys.Given as goal

abbrev pub invariant-reads : goal.invariant-reads
invariant-reads g l = TakenSoFar l.limit l.bytes.items (g.I.Source.seen l.initial.keys) (g.I.Source.seen l.keys)

abbrev pub decreases-reads : goal.decreases-reads
decreases-reads g l = l.limit + 1 - vec_len l.bytes
