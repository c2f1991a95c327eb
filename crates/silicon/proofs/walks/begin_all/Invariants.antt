use Rattle.std.proofs.Common.{◌≡◌, ◌≢◌, ℕ}
use Rattle.silicon.specs.Lines.{lines_of, IsWalked}
use Rattle.silicon.proofs.walks.begin_all.Given as goal

abbrev pub invariant-loop-n : goal.invariant-loop-n
invariant-loop-n l = record {
  lines : lines_of l.walk ≡ lines_of l.initial.walk;
  walked : IsWalked l.walk l.core.0 l.n;
  others : (c m : ℕ) → c ≢ l.core.0 → IsWalked l.initial.walk c m → IsWalked l.walk c m;
}
