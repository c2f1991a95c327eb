use Rattle.packet_law.proofs.Back.{reads_back}
use Rattle.packet_law.proofs.laws.reads_back.Goals as goal

pub returns : goal.returns
returns c = reads_back
