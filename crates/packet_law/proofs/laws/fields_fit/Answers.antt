use Rattle.packet_law.proofs.Widths.{fits}
use Rattle.packet_law.proofs.laws.fields_fit.Goals as goal

pub returns : goal.returns
returns c = fits
