use Rattle.asm_deck.proofs.Decoding.{decoded_at}
use Rattle.asm_deck.proofs.laws.instructions_are_decoded.Goals as goal

pub returns : goal.returns
returns c = decoded_at
