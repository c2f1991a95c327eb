use Rattle.g5_outside.specs.declared.outside.Failed.{Failed}
use Rattle.saved_runs.proofs.RestOfJob.{rest_of_job}
use Rattle.saved_runs.proofs.laws.rest_of_a_job.Goals as goal

pub returns : goal.returns
returns q = λ c j n g h y z u v files a b o p start r lines config stands le rest.
    rest_of_job {E = Failed} c j n g h y z u v files a b o p start r lines config stands le rest
