use Rattle.std.proofs.Common.{◌≡◌, length}
use Rattle.deck_loader.specs.Written.{relocate, ConstantsAreInside}
use Rattle.deck_loader.proofs.write.relocate_all.Given as goal

abbrev pub invariant-loop-r : goal.invariant-loop-r
invariant-loop-r l = record {
  so : relocate l.items l.placed l.rest l.storage ≡ relocate l.items l.placed l.relocations l.fn.storage;
  inside : ConstantsAreInside l.placed (length l.storage) l.rest;
  long : length l.storage ≡ length l.fn.storage;
}

abbrev pub decreases-loop-r : goal.decreases-loop-r
decreases-loop-r l = length l.rest
