use Rattle.std.proofs.Common.{◌≡◌, ◌^◌}
use Rattle.run_model.specs.Code.{value_of}
use Rattle.runit_ecc.proofs.places.value_at.Given as goal

abbrev pub invariant-loop-j : goal.invariant-loop-j
invariant-loop-j l = l.value ≡ value_of (2 ^ l.j) l.w
