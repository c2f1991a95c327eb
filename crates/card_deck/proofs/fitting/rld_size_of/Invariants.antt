use Rattle.std.proofs.Common.{◌≡◌, ◌≤◌, ◌+◌, ◌*◌, false, length}
use Rattle.deck_model.specs.CardWriting.{rld_size}
use Rattle.card_deck.proofs.fitting.rld_size_of.Given as goal

abbrev pub invariant-loop-item : goal.invariant-loop-item
invariant-loop-item l = record {
  so : l.size + rld_size l.omits l.rest ≡ rld_size false l.items;
  bound : l.size + 8 * length l.rest ≤ 104;
}

abbrev pub decreases-loop-item : goal.decreases-loop-item
decreases-loop-item l = length l.rest
