use Rattle.debug_runs.proofs.Ends.{session_turns}
use Rattle.debug_runs.proofs.laws.turns_of_session.Goals as goal

pub returns : goal.returns
returns c = session_turns
