use Rattle.deck_gen.proofs.TextCards.{CardsPut}
use Rattle.deck_gen.proofs.cards.put_text_cards.Given as goal

abbrev pub invariant-loop-i : goal.invariant-loop-i
invariant-loop-i l = CardsPut l.count l.i l.rest l.text l.deck.items l.fn.deck.items
