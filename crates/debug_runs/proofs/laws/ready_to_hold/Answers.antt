use Rattle.debug_runs.proofs.Ends.{can_be_held}
use Rattle.debug_runs.proofs.laws.ready_to_hold.Goals as goal

pub returns : goal.returns
returns c = can_be_held
