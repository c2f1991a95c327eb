use Rattle.debug_runs.proofs.Ends.{whole_said}
use Rattle.debug_runs.proofs.laws.whole_answers.Goals as goal

pub returns : goal.returns
returns c = whole_said
