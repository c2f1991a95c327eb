use Rattle.std.proofs.Common.{ℕ, ◌+◌, ◌<◌, length, get_or}
use Rattle.run_model.specs.declared.faults.Strike.{Strike}
use Rattle.fault_script.specs.Index.{key_of}
use Rattle.fault_script.proofs.ordered.past.Given as goal

abbrev pub invariant-loop-high : goal.invariant-loop-high
invariant-loop-high l = (k : ℕ) (d : Strike) → k < l.high → k < length l.sorted → key_of (get_or l.sorted k d) < l.q + 1
