use Rattle.text_law.proofs.Sources.{text_assembles}
use Rattle.text_law.proofs.laws.texts_assemble.Goals as goal

pub returns : goal.returns
returns c = text_assembles
