use Rattle.debug_runs.proofs.Ends.{first_said}
use Rattle.debug_runs.proofs.laws.first_answers.Goals as goal

pub returns : goal.returns
returns c = first_said
