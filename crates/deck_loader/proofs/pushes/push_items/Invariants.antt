use Rattle.std.proofs.Common.{◌≡◌, ◌≤◌, ◌+◌, ◌++◌, true, length}
use Rattle.std.specs.List.{list_all}
use Rattle.deck_model.specs.CardWriting.{esd_item_fits}
use Rattle.deck_model.specs.Deck.{esd_list}
use Rattle.deck_loader.specs.Listed.{ItemsTyped}
use Rattle.deck_loader.proofs.pushes.push_items.Given as goal

abbrev pub invariant-loop-item : goal.invariant-loop-item
invariant-loop-item l = record {
  so : l.items.items ++ esd_list l.number l.owner l.id l.rest ≡ l.fn.items.items ++ esd_list l.number l.owner l.first l.list;
  small : l.id + length l.rest ≤ 70000;
  typed : ItemsTyped l.items.items;
  fit : list_all esd_item_fits l.rest ≡ true;
  few : length l.items.items + length l.rest ≤ length l.fn.items.items + 3;
}

abbrev pub decreases-loop-item : goal.decreases-loop-item
decreases-loop-item l = length l.rest
