use Rattle.std.proofs.Common.{◌≡◌, ◌≤◌, ◌+◌, ◌-◌, ℕ, List, ◌++◌, false, get_or, length}
use Rattle.deck_model.specs.declared.cards.Card.{Card}
use Rattle.deck_cards.specs.TextCards.{runs}
use Rattle.deck_cards.specs.TextCards.{text_cards}
use Rattle.deck_cards.specs.NumberedCards.{deck_bytes}
use Rattle.deck_cards.proofs.texts.push_texts.Given as goal

abbrev pub invariant-loop-i : goal.invariant-loop-i
invariant-loop-i l = record {
  so : (rest : List Card) → l.out.items ++ deck_bytes l.o.number (text_cards l.id (runs (λ k. get_or l.stands k false) (λ k. get_or l.bytes k 0) l.o.at l.o.held (length l.bytes - l.i)) ++ rest) ≡ l.fn.out.items ++ deck_bytes l.number (text_cards l.id (runs (λ k. get_or l.stands k false) (λ k. get_or l.bytes k 0) 0 0 (length l.bytes)) ++ rest);
  few : l.o.held ≤ 56;
  at : l.o.at + l.o.held ≡ l.i;
  numbers : l.o.number ≤ l.number + l.i;
}
