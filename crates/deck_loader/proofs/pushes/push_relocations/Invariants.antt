use Rattle.std.proofs.Common.{◌≡◌, ◌++◌, true, length}
use Rattle.std.specs.List.{list_all}
use Rattle.deck_model.specs.CardWriting.{rld_item_fits}
use Rattle.deck_model.specs.Deck.{rld_list}
use Rattle.deck_loader.specs.Listed.{WidthsFit}
use Rattle.deck_loader.proofs.pushes.push_relocations.Given as goal

abbrev pub invariant-loop-item : goal.invariant-loop-item
invariant-loop-item l = record {
  so : l.relocations.items ++ rld_list l.number l.owner l.rest ≡ l.fn.relocations.items ++ rld_list l.number l.owner l.list;
  fit : list_all rld_item_fits l.rest ≡ true;
  widths : WidthsFit l.relocations.items;
}

abbrev pub decreases-loop-item : goal.decreases-loop-item
decreases-loop-item l = length l.rest
