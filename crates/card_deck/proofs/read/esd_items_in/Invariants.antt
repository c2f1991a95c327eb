use Rattle.std.proofs.Common.{◌≡◌, true, ◌≤◌, ◌-◌, ◌*◌, [], length}
use Rattle.deck_model.specs.Card.{esd_items}
use Rattle.std.specs.List.{list_all}
use Rattle.deck_model.specs.CardWriting.{esd_item_fits}
use Rattle.card_deck.proofs.read.esd_items_in.Given as goal

abbrev pub invariant-loop-i : goal.invariant-loop-i
invariant-loop-i l = record {
  so : esd_items (l.count - l.i) l.items.items l.rest ≡ esd_items l.count [] l.bytes;
  filled : length l.items.items ≡ l.i;
  fit : list_all esd_item_fits l.items.items ≡ true;
  long : 16 * (l.count - l.i) ≤ length l.rest;
}
