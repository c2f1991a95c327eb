use Rattle.asm_model.specs.Line.{sources}
use Rattle.asm_laws.proofs.ReadLines.{sources_read}
use Rattle.asm_laws.proofs.WholeSource.{has_deck}
use Rattle.asm_laws.proofs.laws.accepted_sources_have_decks.Goals as goal

pub returns : goal.returns
returns c = λ text h. has_deck (sources text) (sources_read text) h
