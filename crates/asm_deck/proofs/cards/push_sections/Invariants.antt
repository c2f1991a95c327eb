use Rattle.std.proofs.Common.{◌≡◌, ◌≤◌, ◌+◌, List, ◌++◌, length}
use Rattle.deck_model.specs.declared.cards.Card.{Card}
use Rattle.deck_cards.specs.NumberedCards.{deck_bytes}
use Rattle.asm_deck.specs.AssembledCards.{section_cards}
use Rattle.asm_deck.specs.Accepted.{LengthsFit}
use Rattle.asm_deck.proofs.cards.push_sections.Given as goal

abbrev pub invariant-loop-first : goal.invariant-loop-first
invariant-loop-first l = record {
  so : (more : List Card) → l.out.items ++ deck_bytes l.id (section_cards l.id l.rest ++ more) ≡ l.fn.out.items ++ deck_bytes l.number (section_cards l.number l.sections ++ more);
  numbers : l.id + length l.rest ≡ l.number + length l.sections;
  lengths : LengthsFit l.rest;
}

abbrev pub decreases-loop-first : goal.decreases-loop-first
decreases-loop-first l = length l.rest
