use Rattle.std.proofs.Common.{◌≡◌, ◌*◌, length}
use Rattle.word_rows.proofs.Successive.{stored_first}
use Rattle.word_rows.proofs.multiple.registers_of.Given as goal

abbrev pub invariant-loop-k : goal.invariant-loop-k
invariant-loop-k l = record {
  bytes : l.out.items ≡ stored_first l.r l.d l.k;
  len : length l.out.items ≡ 4 * l.k;
}
