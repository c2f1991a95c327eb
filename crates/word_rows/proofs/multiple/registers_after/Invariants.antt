use Rattle.std.proofs.Common.{◌≡◌, ℕ, ◌<◌, get_or, length}
use Rattle.esa_model.specs.Rows.Stores.{loaded}
use Rattle.word_rows.proofs.multiple.registers_after.Given as goal

abbrev pub invariant-loop-n : goal.invariant-loop-n
invariant-loop-n g l = record {
  same : g.V.View.bytes l.view ≡ g.V.View.bytes l.fn.view;
  len : length l.out ≡ 16;
  filled : (k : ℕ) → k < l.n → get_or l.out k 0 ≡ loaded l.r (g.V.View.bytes l.fn.view) l.d k;
}
