use Rattle.asm_deck.proofs.Image.{assembled_image}
use Rattle.asm_deck.proofs.laws.assembled_decks_have_images.Goals as goal

pub returns : goal.returns
returns c = assembled_image
