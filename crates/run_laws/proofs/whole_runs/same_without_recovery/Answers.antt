use Rattle.run_laws.proofs.Same.{same_trace, same_console}
use Rattle.run_laws.proofs.whole_runs.same_without_recovery.Goals as goal

pub returns-clause-trace : goal.returns-clause-trace
returns-clause-trace c = same_trace

pub returns-clause-console : goal.returns-clause-console
returns-clause-console c = same_console
