use Rattle.std.proofs.Common.{◌≡◌, length}
use Rattle.asm_model.specs.Places.{start, last}
use Rattle.asm_places.proofs.forms.has_end.Given as goal

abbrev pub invariant-loop-first : goal.invariant-loop-first
invariant-loop-first l = (last start l.rest).ended ≡ (last start l.sources).ended

abbrev pub decreases-loop-first : goal.decreases-loop-first
decreases-loop-first l = length l.rest
