use Rattle.std.proofs.Common.{◌≡◌, ◌-◌}
use Rattle.std.specs.Prelude.{slice_index}
use Rattle.run_model.specs.Cores.{lowest}
use Rattle.log_audit.specs.Remembered.{hand}
use Rattle.log_audit.proofs.memory.lowest.Given as goal

abbrev pub invariant-cores : goal.invariant-cores
invariant-cores l =
    lowest (hand l.fn.c (λ k. slice_index l.taken k) (λ k. slice_index l.returned k)) 0 16
    ≡ lowest (hand l.fn.c (λ k. slice_index l.taken k) (λ k. slice_index l.returned k)) l.core
    (16 - l.core)
