use Rattle.log_audit.proofs.Ran.{lawful_is_yes, runs_are_yes}
use Rattle.log_audit.proofs.Writings.{written_log_is_read}
use Rattle.log_audit.proofs.laws.written_logs.Goals as goal

pub returns-clause-read : goal.returns-clause-read
returns-clause-read c = written_log_is_read

pub returns-clause-lawful : goal.returns-clause-lawful
returns-clause-lawful c = lawful_is_yes

pub returns-clause-runs : goal.returns-clause-runs
returns-clause-runs c = runs_are_yes
