use Rattle.std.proofs.Common.{length}
use Rattle.asm_places.proofs.ProgramSteps.{Left}
use Rattle.asm_places.proofs.program.write_lines.Given as goal

abbrev pub invariant-loop-first : goal.invariant-loop-first
invariant-loop-first l = Left l.places l.sources l.spot l.rest l.written.sections.items l.written.held l.written.constants.items

abbrev pub decreases-loop-first : goal.decreases-loop-first
decreases-loop-first l = length l.rest
