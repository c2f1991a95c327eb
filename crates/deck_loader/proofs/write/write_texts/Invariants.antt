use Rattle.std.proofs.Common.{◌≡◌, length}
use Rattle.deck_loader.specs.Written.{written, AreInside}
use Rattle.deck_loader.proofs.write.write_texts.Given as goal

abbrev pub invariant-loop-t : goal.invariant-loop-t
invariant-loop-t l = record {
  so : written l.placed l.rest l.storage ≡ written l.placed l.texts l.fn.storage;
  inside : AreInside l.placed (length l.storage) l.rest;
  long : length l.storage ≡ length l.fn.storage;
}

abbrev pub decreases-loop-t : goal.decreases-loop-t
decreases-loop-t l = length l.rest
