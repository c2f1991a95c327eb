use Rattle.std.proofs.Common.{◌≡◌, ◌++◌, length}
use Rattle.deck_link.specs.Constants.{ConstantsIn, constant_items}
use Rattle.deck_link.proofs.constants.items_among.Given as goal

abbrev pub invariant-loop-first : goal.invariant-loop-first
invariant-loop-first l = record {
  so : l.items.items ++ constant_items l.rest ≡ constant_items l.constants;
  inside : ConstantsIn 16711680 l.rest;
}

abbrev pub decreases-loop-first : goal.decreases-loop-first
decreases-loop-first l = length l.rest
