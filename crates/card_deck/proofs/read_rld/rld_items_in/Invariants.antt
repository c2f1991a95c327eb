use Rattle.std.proofs.Common.{◌≡◌, [], length, drop, take, map}
use Rattle.deck_model.specs.Card.{rld_items, rld_item}
use Rattle.card_deck.proofs.read_rld.rld_items_in.Given as goal

abbrev pub invariant-loop-raw : goal.invariant-loop-raw
invariant-loop-raw l = record {
  so : rld_items l.items.items (drop l.raw-index l.raws) ≡ rld_items [] l.raws;
  each : l.items.items ≡ map rld_item (take l.raw-index l.raws);
  filled : length l.items.items ≡ l.raw-index;
}
