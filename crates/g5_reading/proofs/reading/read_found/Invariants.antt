use Rattle.std.proofs.Common.{◌+◌, ◌-◌, vec_len}
use Rattle.g5_reading.proofs.ReadLoop.{ReadSoFar}
use Rattle.g5_reading.proofs.reading.read_found.Given as goal

abbrev pub invariant-reads : goal.invariant-reads
invariant-reads g l = ReadSoFar l.limit l.bytes.items (g.F.Shelf.seen l.initial.shelf) (g.F.Shelf.seen l.shelf)

abbrev pub decreases-reads : goal.decreases-reads
decreases-reads g l = l.limit + 1 - vec_len l.bytes
