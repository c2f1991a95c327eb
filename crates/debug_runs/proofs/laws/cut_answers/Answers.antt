use Rattle.debug_runs.proofs.Ends.{cut_said}
use Rattle.debug_runs.proofs.laws.cut_answers.Goals as goal

pub returns : goal.returns
returns c = cut_said
