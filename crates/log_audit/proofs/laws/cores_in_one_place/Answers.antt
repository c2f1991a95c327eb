use Rattle.log_audit.proofs.Heads.{cores_in_one_place}
use Rattle.log_audit.proofs.laws.cores_in_one_place.Goals as goal

pub returns : goal.returns
returns c = cores_in_one_place
