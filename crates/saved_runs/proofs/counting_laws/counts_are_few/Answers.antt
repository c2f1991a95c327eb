use Rattle.saved_runs.proofs.Few.{few_job, few_table}
use Rattle.saved_runs.proofs.counting_laws.counts_are_few.Goals as goal

pub returns-clause-table : goal.returns-clause-table
returns-clause-table c = λ d ks ts b. few_table d ks ts b

pub returns-clause-job : goal.returns-clause-job
returns-clause-job c = λ d j n le. few_job d j n le
