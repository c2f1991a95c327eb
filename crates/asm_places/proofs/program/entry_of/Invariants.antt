use Rattle.std.proofs.Common.{◌≡◌, length}
use Rattle.asm_model.specs.Places.{start, standings}
use Rattle.asm_model.specs.Program.{entry_in}
use Rattle.asm_places.specs.WrittenLines.{of_names}
use Rattle.asm_places.proofs.program.entry_of.Given as goal

abbrev pub invariant-loop-first : goal.invariant-loop-first
invariant-loop-first l = entry_in (of_names l.names) (standings start l.rest) ≡ entry_in (of_names l.names) (standings start l.sources)

abbrev pub decreases-loop-first : goal.decreases-loop-first
decreases-loop-first l = length l.rest
