use Rattle.std.proofs.Common.{◌≡◌, ℕ, ◌+◌, ◌<◌, get_or}
use Rattle.esa_model.specs.Access.{byte}
use Rattle.operand_access.proofs.bytes.gather.Given as goal

abbrev pub invariant-loop-k : goal.invariant-loop-k
invariant-loop-k g l = record {
  same : g.V.View.bytes l.view ≡ g.V.View.bytes l.fn.view;
  filled : (k : ℕ) → k < l.k → get_or l.into k 0 ≡ byte l.r (g.V.View.bytes l.fn.view) (l.at + k);
}
