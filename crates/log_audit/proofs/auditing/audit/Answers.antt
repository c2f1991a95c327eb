use Rattle.log_audit.proofs.Verdicts.{yes_by}
use Rattle.log_audit.proofs.auditing.audit.Goals as goal

pub returns-clause-yes : goal.returns-clause-yes
returns-clause-yes c = yes_by c.args.log.now c.judge_log.result c.judge_log.ensures
