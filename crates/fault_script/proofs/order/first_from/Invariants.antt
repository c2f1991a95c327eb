use Rattle.std.proofs.Common.{◌-◌, ◌≤◌, length}
use Rattle.fault_script.specs.Index.{IsFirst}
use Rattle.fault_script.proofs.order.first_from.Given as goal

abbrev pub invariant-loop-low : goal.invariant-loop-low
invariant-loop-low l = record {
  first : IsFirst l.q l.sorted l.low l.high;
  order : l.low ≤ l.high;
  inside : l.high ≤ length l.sorted;
}

abbrev pub decreases-loop-low : goal.decreases-loop-low
decreases-loop-low l = l.high - l.low
