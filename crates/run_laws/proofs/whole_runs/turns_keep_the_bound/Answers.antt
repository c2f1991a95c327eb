use Rattle.run_laws.proofs.BoundedTurns.{bounded_kept}
use Rattle.run_laws.proofs.whole_runs.turns_keep_the_bound.Goals as goal

pub returns-clause-kept : goal.returns-clause-kept
returns-clause-kept c = bounded_kept
