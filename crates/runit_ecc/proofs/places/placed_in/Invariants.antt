use Rattle.std.proofs.Common.{◌≡◌, ◌^◌}
use Rattle.run_model.specs.Code.{placed}
use Rattle.runit_ecc.proofs.places.placed_in.Given as goal

abbrev pub invariant-loop-j : goal.invariant-loop-j
invariant-loop-j l = l.w ≡ placed (2 ^ l.j) l.value
