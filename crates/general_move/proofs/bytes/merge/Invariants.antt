use Rattle.std.proofs.Common.{◌≡◌, ℕ, ◌<◌, ◌≤◌, get_or}
use Rattle.esa_model.specs.Moves.{combined}
use Rattle.general_move.proofs.bytes.merge.Given as goal

abbrev pub invariant-loop-i : goal.invariant-loop-i
invariant-loop-i l = record {
  done : (k : ℕ) → k < l.i
      → get_or l.first k 0 ≡ combined l.op (get_or l.fn.first k 0) (get_or l.second k 0);
  left : (k : ℕ) → l.i ≤ k → get_or l.first k 0 ≡ get_or l.fn.first k 0;
}
