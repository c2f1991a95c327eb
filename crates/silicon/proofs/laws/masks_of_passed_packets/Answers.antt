use Rattle.silicon.proofs.Masked.{told_apart}
use Rattle.silicon.proofs.laws.masks_of_passed_packets.Goals as goal

pub returns-clause-same : goal.returns-clause-same
returns-clause-same c = told_apart
