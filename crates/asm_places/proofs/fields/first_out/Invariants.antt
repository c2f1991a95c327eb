use Rattle.std.proofs.Common.{length}
use Rattle.asm_places.proofs.RangeSteps.{Ranging}
use Rattle.asm_places.proofs.fields.first_out.Given as goal

abbrev pub invariant-loop-first : goal.invariant-loop-first
invariant-loop-first l = Ranging l.names l.sources l.spot l.rest

abbrev pub decreases-loop-first : goal.decreases-loop-first
decreases-loop-first l = length l.rest
