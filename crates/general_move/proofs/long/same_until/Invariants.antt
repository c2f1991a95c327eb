use Rattle.std.proofs.Common.{◌≡◌, ◌≤◌}
use Rattle.esa_model.specs.LongMoves.{equal_places, first_byte, second_byte}
use Rattle.general_move.proofs.long.same_until.Given as goal

abbrev pub invariant-loop-i : goal.invariant-loop-i
invariant-loop-i l = record {
  same : l.same ≡ equal_places (first_byte l.first l.c) (second_byte l.second l.c) l.i;
  within : l.same ≤ l.i;
}
