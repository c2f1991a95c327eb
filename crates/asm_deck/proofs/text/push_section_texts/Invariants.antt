use Rattle.std.proofs.Common.{◌≡◌, ◌≤◌, ◌<◌, ◌+◌, List, ◌++◌, length}
use Rattle.deck_model.specs.declared.cards.Card.{Card}
use Rattle.deck_cards.specs.NumberedCards.{deck_bytes}
use Rattle.asm_deck.specs.AssembledCards.{section_texts}
use Rattle.asm_deck.specs.Accepted.{LengthsFit}
use Rattle.asm_deck.specs.Writable.{total_length}
use Rattle.asm_deck.proofs.text.push_section_texts.Given as goal

abbrev pub invariant-loop-first : goal.invariant-loop-first
invariant-loop-first l = record {
  so : (more : List Card) → l.out.items ++ deck_bytes l.next (section_texts l.id l.rest ++ more) ≡ l.fn.out.items ++ deck_bytes l.number (section_texts 1 l.sections ++ more);
  ids : l.id + length l.rest ≡ 1 + length l.sections;
  lengths : LengthsFit l.rest;
  numbers : l.next + total_length l.rest + length l.rest ≤ l.number + total_length l.sections + length l.sections;
}

abbrev pub decreases-loop-first : goal.decreases-loop-first
decreases-loop-first l = length l.rest
