use Rattle.std.proofs.Common.{◌≡◌, map, take}
use Rattle.deck_link.specs.Constants.{constant_for}
use Rattle.deck_link.proofs.constants.constants_among.Given as goal

abbrev pub invariant-loop-r : goal.invariant-loop-r
invariant-loop-r l = l.constants.items ≡ map (constant_for l.deck.lists.items.items l.deck.placed.items) (take l.r-index l.relocations)
