use Rattle.std.proofs.Common.{◌≡◌, ◌≤◌, take}
use Rattle.esa_model.specs.Edit.{state}
use Rattle.decimal_instr.proofs.patterns.state_after.Given as goal

abbrev pub invariant-loop-p : goal.invariant-loop-p
invariant-loop-p l = record {
  is : l.e ≡ state l.source (take l.p-index l.pattern);
  used : l.e.used ≤ l.p-index;
  at : l.e.at ≤ l.p-index;
}
