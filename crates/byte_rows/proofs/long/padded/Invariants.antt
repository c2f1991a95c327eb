use Rattle.std.proofs.Common.{◌≡◌, ◌+◌, ◌++◌, length}
use Rattle.std.specs.Prelude.{replicate}
use Rattle.byte_rows.proofs.long.padded.Given as goal

abbrev pub invariant-loop-k : goal.invariant-loop-k
invariant-loop-k l = record {
  items : l.list.items ≡ l.fn.bytes.items ++ replicate l.k l.pad;
  len : length l.list.items ≡ length l.fn.bytes.items + l.k;
}
