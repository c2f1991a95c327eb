use Rattle.std.proofs.Common.{◌≡◌, ◌*◌, ℕ, ◌<◌, true, length, take, drop, get_or}
use Rattle.std.specs.List.{flat_map, list_all}
use Rattle.deck_model.specs.declared.cards.EsdItem.{EsdItem}
use Rattle.deck_model.specs.CardWriting.{esd_item_bytes, esd_item_fits}
use Rattle.card_deck.proofs.write.esd_data_of.Given as goal

abbrev pub invariant-loop-item : goal.invariant-loop-item
invariant-loop-item l = record {
  so : l.bytes.items ≡ flat_map esd_item_bytes (take l.item-index l.items);
  len : length l.bytes.items ≡ 16 * l.item-index;
  fit : list_all esd_item_fits (drop l.item-index l.items) ≡ true;
  named : (d : EsdItem) (k : ℕ) → k < l.item-index → length (get_or l.items k d).name ≡ 8;
}
