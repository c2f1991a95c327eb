use Rattle.run_laws.proofs.Tellings.{lawful_told, run_lawful}
use Rattle.run_laws.proofs.lawfulness.logs_are_lawful.Goals as goal

pub returns-clause-told : goal.returns-clause-told
returns-clause-told c = lawful_told

pub returns-clause-run : goal.returns-clause-run
returns-clause-run c = run_lawful
