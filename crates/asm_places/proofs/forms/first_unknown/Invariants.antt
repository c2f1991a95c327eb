use Rattle.std.proofs.Common.{◌≡◌, length}
use Rattle.std.specs.List.{find}
use Rattle.asm_model.specs.Places.{start, standings}
use Rattle.asm_model.specs.Refused.{is_unknown}
use Rattle.asm_places.specs.Found.{number_of, first_line}
use Rattle.asm_places.proofs.forms.first_unknown.Given as goal

abbrev pub invariant-loop-first : goal.invariant-loop-first
invariant-loop-first l = number_of (find is_unknown (standings start l.rest)) ≡ first_line is_unknown l.sources

abbrev pub decreases-loop-first : goal.decreases-loop-first
decreases-loop-first l = length l.rest
