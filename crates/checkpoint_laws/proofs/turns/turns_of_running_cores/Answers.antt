use Rattle.checkpoint_laws.proofs.Exits.{waiting_after, lost_after, failed_after, committed_after, stepped_after}
use Rattle.checkpoint_laws.proofs.turns.turns_of_running_cores.Goals as goal

pub returns-clause-waits : goal.returns-clause-waits
returns-clause-waits c = waiting_after

pub returns-clause-loses : goal.returns-clause-loses
returns-clause-loses c = lost_after

pub returns-clause-fails : goal.returns-clause-fails
returns-clause-fails c = failed_after

pub returns-clause-commits : goal.returns-clause-commits
returns-clause-commits c = committed_after

pub returns-clause-steps : goal.returns-clause-steps
returns-clause-steps c = stepped_after
