use Rattle.std.proofs.Common.{length}
use Rattle.g5_writing.proofs.Adding.{FileSoFar}
use Rattle.g5_writing.proofs.outputs.add_to_file.Given as goal

abbrev pub invariant-writes : goal.invariant-writes
invariant-writes g l = FileSoFar l.file.0 l.bytes l.rest (g.F.Shelf.seen l.initial.shelf) (g.F.Shelf.seen l.shelf)

abbrev pub decreases-writes : goal.decreases-writes
decreases-writes g l = length l.rest
