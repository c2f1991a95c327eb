use Rattle.packet_law.proofs.Events.{no_unit}
use Rattle.packet_law.proofs.laws.sound_interruptions.Goals as goal

pub returns : goal.returns
returns c = no_unit
