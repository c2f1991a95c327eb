use Rattle.std.proofs.Common.{◌≡◌, length}
use Rattle.esa_model.specs.Rows.Bytes.{translated}
use Rattle.byte_rows.proofs.moves.bytes_translated.Given as goal

abbrev pub invariant-loop-k : goal.invariant-loop-k
invariant-loop-k g l = record {
  same : g.V.View.bytes l.view ≡ g.V.View.bytes l.fn.view;
  items : l.out.items ≡ translated l.r (g.V.View.bytes l.fn.view) l.to l.table l.k;
  len : length l.out.items ≡ l.k;
}
