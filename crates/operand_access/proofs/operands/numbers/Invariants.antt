use Rattle.std.proofs.Common.{◌≡◌, length}
use Rattle.std.specs.List.{range_with_len}
use Rattle.operand_access.proofs.operands.numbers.Given as goal

abbrev pub invariant-loop-k : goal.invariant-loop-k
invariant-loop-k l = record {
  items : l.list.items ≡ range_with_len 0 l.k;
  len : length l.list.items ≡ l.k;
}
