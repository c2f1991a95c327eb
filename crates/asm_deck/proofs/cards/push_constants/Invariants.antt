use Rattle.std.proofs.Common.{◌≡◌, ◌≤◌, ◌+◌, List, ◌++◌, length}
use Rattle.deck_model.specs.declared.cards.Card.{Card}
use Rattle.deck_cards.specs.NumberedCards.{deck_bytes}
use Rattle.asm_deck.specs.AssembledCards.{constant_cards}
use Rattle.asm_deck.specs.Writable.{ColumnsFit}
use Rattle.asm_deck.proofs.cards.push_constants.Given as goal

abbrev pub invariant-loop-first : goal.invariant-loop-first
invariant-loop-first l = record {
  so : (more : List Card) → l.out.items ++ deck_bytes l.next (constant_cards l.rest ++ more) ≡ l.fn.out.items ++ deck_bytes l.number (constant_cards l.constants ++ more);
  numbers : l.next + length l.rest ≡ l.number + length l.constants;
  columns : ColumnsFit l.rest;
}

abbrev pub decreases-loop-first : goal.decreases-loop-first
decreases-loop-first l = length l.rest
