use Rattle.std.proofs.Common.{◌≡◌, ◌≤◌, ◌+◌, ◌-◌, ◌*◌, length}
use Rattle.deck_model.specs.Deck.{cards_from, listing}
use Rattle.deck_loader.specs.Listed.{listed, onto, ItemsTyped, WidthsFit}
use Rattle.deck_loader.proofs.listing.read_deck.Given as goal

abbrev pub invariant-loop-i : goal.invariant-loop-i
invariant-loop-i l = record {
  so : onto (listed l.lists) l.ended (cards_from (l.count - l.i) l.number l.owner l.rest) ≡ listing l.deck;
  numbered : l.number ≡ l.i + 1;
  owners : l.owner ≤ l.i;
  long : 80 * (l.count - l.i) ≤ length l.rest;
  few : 80 * l.count ≤ length l.deck;
  items : length l.lists.items.items ≤ 3 * l.i;
  typed : ItemsTyped l.lists.items.items;
  widths : WidthsFit l.lists.relocations.items;
}
