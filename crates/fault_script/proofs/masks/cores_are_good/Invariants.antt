use Rattle.std.proofs.Common.{ℕ, ◌<◌}
use Rattle.fault_script.specs.Changes.{GoodChanges}
use Rattle.fault_script.proofs.masks.cores_are_good.Given as goal

abbrev pub invariant-loop-core : goal.invariant-loop-core
invariant-loop-core l = (k n : ℕ) → k < l.core → GoodChanges l.changes k n
