use Rattle.std.proofs.Common.{◌≡◌}
use Rattle.esa_model.specs.Moves.{moved}
use Rattle.general_move.proofs.bytes.overlapped.Given as goal

abbrev pub invariant-loop-i : goal.invariant-loop-i
invariant-loop-i l = l.area ≡ moved l.op l.to l.from l.i l.fn.area
