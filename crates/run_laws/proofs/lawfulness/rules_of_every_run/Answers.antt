use Rattle.run_laws.proofs.Ruling.{keeps_rules}
use Rattle.run_laws.proofs.lawfulness.rules_of_every_run.Goals as goal

pub returns : goal.returns
returns c = keeps_rules
