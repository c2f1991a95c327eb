use Rattle.run_laws.proofs.Sound.{sound_before}
use Rattle.run_laws.proofs.whole_runs.sound_before_turns.Goals as goal

pub returns : goal.returns
returns c = sound_before
