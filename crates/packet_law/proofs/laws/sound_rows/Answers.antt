use Rattle.packet_law.proofs.Performed.{sound_row}
use Rattle.packet_law.proofs.laws.sound_rows.Goals as goal

pub returns : goal.returns
returns c = sound_row
