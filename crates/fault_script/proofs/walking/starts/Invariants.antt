use Rattle.std.proofs.Common.{◌≡◌, ℕ, ◌<◌, length, get_or}
use Rattle.fault_script.specs.Walk.{IsAt}
use Rattle.fault_script.specs.declared.core_walks.CoreWalk.{CoreWalk}
use Rattle.fault_script.proofs.walking.starts.Given as goal

abbrev pub invariant-loop-core : goal.invariant-loop-core
invariant-loop-core l = record {
  size : length l.cores.items ≡ l.core;
  at : (k : ℕ) (d : CoreWalk) → k < l.core → IsAt l.ordered k 0 (get_or l.cores.items k d);
}
