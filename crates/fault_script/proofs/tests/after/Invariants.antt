use Rattle.fault_script.specs.Walks.{IsOn}
use Rattle.fault_script.proofs.tests.after.Given as goal

abbrev pub invariant-loop-n : goal.invariant-loop-n
invariant-loop-n l = IsOn l.walk l.core.0 l.n
