use Rattle.std.proofs.Common.{◌≡◌, ◌≤◌, ◌+◌, List, ◌++◌, length}
use Rattle.deck_model.specs.declared.cards.Card.{Card}
use Rattle.deck_cards.specs.NumberedCards.{deck_bytes}
use Rattle.asm_deck.specs.AssembledCards.{external_cards}
use Rattle.asm_deck.proofs.cards.push_externals.Given as goal

abbrev pub invariant-loop-first : goal.invariant-loop-first
invariant-loop-first l = record {
  so : (more : List Card) → l.out.items ++ deck_bytes l.id (external_cards l.id l.rest ++ more) ≡ l.fn.out.items ++ deck_bytes l.number (external_cards l.number l.names ++ more);
  numbers : l.id + length l.rest ≡ l.number + length l.names;
}

abbrev pub decreases-loop-first : goal.decreases-loop-first
decreases-loop-first l = length l.rest
