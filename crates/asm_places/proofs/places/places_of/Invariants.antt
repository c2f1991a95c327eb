use Rattle.std.proofs.Common.{length}
use Rattle.asm_places.proofs.PlaceSteps.{Going}
use Rattle.asm_places.proofs.places.places_of.Given as goal

abbrev pub invariant-loop-first : goal.invariant-loop-first
invariant-loop-first l = Going l.sources l.doubled l.places l.rest

abbrev pub decreases-loop-first : goal.decreases-loop-first
decreases-loop-first l = length l.rest
