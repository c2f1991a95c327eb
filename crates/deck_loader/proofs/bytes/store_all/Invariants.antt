use Rattle.std.proofs.Common.{◌≡◌, ◌+◌, ◌≤◌, length}
use Rattle.deck_loader.specs.Written.{stored}
use Rattle.deck_loader.proofs.bytes.store_all.Given as goal

abbrev pub invariant-loop-b : goal.invariant-loop-b
invariant-loop-b l = record {
  so : stored l.place l.rest l.storage ≡ stored l.at l.bytes l.fn.storage;
  room : l.place + length l.rest ≤ length l.storage;
  long : length l.storage ≡ length l.fn.storage;
}

abbrev pub decreases-loop-b : goal.decreases-loop-b
decreases-loop-b l = length l.rest
