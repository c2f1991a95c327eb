use Rattle.std.proofs.Common.{◌≡◌, ◌≤◌, ◌+◌, ◌++◌, true, false, length}
use Rattle.std.specs.List.{list_all}
use Rattle.deck_model.specs.CardWriting.{rld_size, rld_bytes, rld_item_fits}
use Rattle.card_deck.specs.Results.{PointersFit}
use Rattle.card_deck.proofs.write.rld_data_of.Given as goal

abbrev pub invariant-loop-item : goal.invariant-loop-item
invariant-loop-item l = record {
  so : l.bytes.items ++ rld_bytes l.omits l.rest ≡ rld_bytes false l.items;
  room : length l.bytes.items + rld_size l.omits l.rest ≤ 56;
  fit : list_all rld_item_fits l.rest ≡ true;
  pointers : PointersFit l.rest → PointersFit l.items;
}

abbrev pub decreases-loop-item : goal.decreases-loop-item
decreases-loop-item l = length l.rest
