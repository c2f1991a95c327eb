use Rattle.std.specs.Prelude.{ℕ, ◌<◌, ◌≤◌}
use Rattle.g5_debugger.proofs.tests.has_begun.Given as goal

abbrev pub invariant-loop-core : goal.invariant-loop-core
invariant-loop-core g l = (k : ℕ) → k < l.core → (g.Z.Silicon.seen l.z).begun k ≤ l.most
