use Rattle.std.proofs.Common.{◌≡◌, drop}
use Rattle.esa_model.specs.MaskRows.{order_of_bytes}
use Rattle.word_rows.proofs.masks.order_of.Given as goal

abbrev pub invariant-loop-k : goal.invariant-loop-k
invariant-loop-k l = order_of_bytes l.xs l.ys ≡ order_of_bytes (drop l.k l.xs) (drop l.k l.ys)
