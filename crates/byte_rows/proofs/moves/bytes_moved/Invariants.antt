use Rattle.std.proofs.Common.{◌≡◌, length}
use Rattle.esa_model.specs.Rows.Bytes.{moved}
use Rattle.byte_rows.proofs.moves.bytes_moved.Given as goal

abbrev pub invariant-loop-k : goal.invariant-loop-k
invariant-loop-k g l = record {
  same : g.V.View.bytes l.view ≡ g.V.View.bytes l.fn.view;
  items : l.out.items ≡ moved l.op l.r (g.V.View.bytes l.fn.view) l.to l.from l.k;
  len : length l.out.items ≡ l.k;
}
