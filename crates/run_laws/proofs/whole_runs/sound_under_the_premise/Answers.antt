use Rattle.run_laws.proofs.Premised.{within_sound}
use Rattle.run_laws.proofs.whole_runs.sound_under_the_premise.Goals as goal

pub returns : goal.returns
returns c = within_sound
