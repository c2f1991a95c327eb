use Rattle.std.proofs.Common.{◌≡◌, length}
use Rattle.std.specs.List.{find}
use Rattle.asm_model.specs.Places.{standings}
use Rattle.asm_model.specs.Refused.{has_no_section}
use Rattle.asm_places.specs.Found.{number_of, first_line}
use Rattle.asm_places.specs.Spots.{of_section}
use Rattle.asm_places.proofs.forms.first_outside.Given as goal

abbrev pub invariant-loop-first : goal.invariant-loop-first
invariant-loop-first l = number_of (find has_no_section (standings (of_section l.begun) l.rest)) ≡ first_line has_no_section l.sources

abbrev pub decreases-loop-first : goal.decreases-loop-first
decreases-loop-first l = length l.rest
