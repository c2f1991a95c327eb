use Rattle.std.proofs.Common.{◌≡◌, ◌<◌}
use Rattle.esa_model.specs.WordRows.{leftmost}
use Rattle.general_arith.proofs.halves.leftmost_of.Given as goal

abbrev pub invariant-loop-n : goal.invariant-loop-n
invariant-loop-n l = record { value : l.place ≡ leftmost l.n l.mask; small : l.place < 16 }
