use Rattle.std.proofs.Common.{◌≡◌, length, get_or}
use Rattle.deck_model.specs.Image.{bytes_from}
use Rattle.deck_loader.proofs.bytes.constant_bytes.Given as goal

abbrev pub invariant-loop-i : goal.invariant-loop-i
invariant-loop-i l = record {
  so : l.bytes.items ≡ bytes_from (λ k. get_or l.storage k 0) l.at l.i;
  long : length l.bytes.items ≡ l.i;
}
