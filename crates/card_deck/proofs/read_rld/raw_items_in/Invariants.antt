use Rattle.std.proofs.Common.{◌≡◌, ◌-◌, length}
use Rattle.deck_model.specs.Card.{raw_items, rld_raws}
use Rattle.card_deck.proofs.Sizes.{Filling}
use Rattle.card_deck.proofs.read_rld.raw_items_in.Given as goal

abbrev pub invariant-loop-i : goal.invariant-loop-i
invariant-loop-i l = record {
  so : raw_items (13 - l.i) l.items.items l.omits l.before l.rest ≡ rld_raws l.bytes;
  fit : Filling (length l.bytes) (length l.rest) l.omits l.before l.items.items;
  filled : length l.items.items ≡ l.i;
}
