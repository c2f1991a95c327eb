use Rattle.std.proofs.Common.{◌≡◌, take, length}
use Rattle.control_rows.proofs.diagnose.read_ahead.Given as goal

abbrev pub invariant-loop-k : goal.invariant-loop-k
invariant-loop-k l = (l.list.items ≡ take l.k l.console) × (length l.list.items ≡ l.k)
