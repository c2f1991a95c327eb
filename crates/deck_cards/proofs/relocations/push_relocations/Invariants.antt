use Rattle.std.proofs.Common.{◌≡◌, ◌≤◌, ◌+◌, List, [], ◌++◌, length}
use Rattle.deck_model.specs.declared.cards.Card.{Card}
use Rattle.deck_cards.specs.RelocationCards.{rld_cards, SharePointers}
use Rattle.deck_cards.specs.NumberedCards.{deck_bytes}
use Rattle.deck_cards.proofs.relocations.push_relocations.Given as goal

abbrev pub invariant-loop-first : goal.invariant-loop-first
invariant-loop-first l = record {
  so : (more : List Card) → l.out.items ++ deck_bytes l.held.number (rld_cards more l.held.items.items l.rest) ≡ l.fn.out.items ++ deck_bytes l.number (rld_cards more [] l.relocations);
  few : length l.held.items.items ≤ 13;
  held : SharePointers l.target l.place l.held.items.items;
  left : SharePointers l.target l.place l.rest;
  numbers : l.held.number + length l.rest ≤ l.number + length l.relocations;
}

abbrev pub decreases-loop-first : goal.decreases-loop-first
decreases-loop-first l = length l.rest
