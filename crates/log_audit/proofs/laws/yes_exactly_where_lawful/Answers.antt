use Rattle.log_audit.proofs.Verdicts.{yes_exactly}
use Rattle.log_audit.proofs.laws.yes_exactly_where_lawful.Goals as goal

pub returns : goal.returns
returns c = yes_exactly
