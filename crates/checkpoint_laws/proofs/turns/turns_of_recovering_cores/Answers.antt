use Rattle.checkpoint_laws.proofs.Exits.{recovered_after, handed_after, unhanded_after, unspared_after}
use Rattle.checkpoint_laws.proofs.turns.turns_of_recovering_cores.Goals as goal

pub returns-clause-retries : goal.returns-clause-retries
returns-clause-retries c = recovered_after

pub returns-clause-hands_over : goal.returns-clause-hands_over
returns-clause-hands_over c = handed_after

pub returns-clause-loses : goal.returns-clause-loses
returns-clause-loses c = unhanded_after

pub returns-clause-has_no_spare : goal.returns-clause-has_no_spare
returns-clause-has_no_spare c = unspared_after
