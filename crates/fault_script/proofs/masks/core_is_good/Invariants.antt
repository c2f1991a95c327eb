use Rattle.std.proofs.Common.{ℕ, ◌<◌, length}
use Rattle.fault_script.specs.Changes.{GoodChanges, at_place}
use Rattle.fault_script.proofs.Sweep.{Swept}
use Rattle.fault_script.proofs.masks.core_is_good.Given as goal

abbrev pub invariant-loop-i : goal.invariant-loop-i
invariant-loop-i l = record {
  swept : Swept l.changes l.core l.i l.struck.odd.items l.unlike.odd.items;
  good : (n : ℕ) → (l.i < length l.changes → n < at_place l.changes l.i) → GoodChanges l.changes l.core n;
}
