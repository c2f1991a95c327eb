use Rattle.std.proofs.Common.{length}
use Rattle.g5_writing.proofs.Adding.{SinkSoFar}
use Rattle.g5_writing.proofs.outputs.add_to_sink.Given as goal

abbrev pub invariant-writes : goal.invariant-writes
invariant-writes g l = SinkSoFar l.bytes l.rest (g.O.Sink.seen l.initial.out) (g.O.Sink.seen l.out)

abbrev pub decreases-writes : goal.decreases-writes
decreases-writes g l = length l.rest
