use Rattle.std.proofs.Common.{◌≡◌, ◌+◌, List, ◌++◌, length, map}
use Rattle.deck_model.specs.declared.cards.Card.{Card}
use Rattle.deck_cards.specs.NumberedCards.{deck_bytes}
use Rattle.deck_cards.specs.Writable.{AreWritable}
use Rattle.link_model.specs.Linked.{label_card}
use Rattle.deck_link.proofs.cards.push_labels.Given as goal

abbrev pub invariant-loop-first : goal.invariant-loop-first
invariant-loop-first l = record {
  so : (more : List Card) → l.out.items ++ deck_bytes l.next (map label_card l.rest ++ more) ≡ l.fn.out.items ++ deck_bytes l.number (map label_card l.labels ++ more);
  numbers : l.next + length l.rest ≡ l.number + length l.labels;
  writable : AreWritable (map label_card l.rest);
}

abbrev pub decreases-loop-first : goal.decreases-loop-first
decreases-loop-first l = length l.rest
