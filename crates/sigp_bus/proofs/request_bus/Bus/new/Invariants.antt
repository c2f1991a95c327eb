use Rattle.std.proofs.Common.{◌≡◌, ◌∷◌}
use Rattle.std.specs.Prelude.{replicate}
use Rattle.esa_model.specs.declared.machine.CpuState.TheVariants.{Operating, Stopped}
use Rattle.esa_model.specs.Bus.{quiet}
use Rattle.sigp_bus.proofs.request_bus.Bus.new.Given as goal

abbrev pub invariant-loop-k : goal.invariant-loop-k
invariant-loop-k l = l.signals.items ≡ quiet Operating ∷ replicate l._k (quiet Stopped)
