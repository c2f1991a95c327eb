use Rattle.std.proofs.Common.{◌≡◌, length, take, map}
use Rattle.esa_model.specs.MaskRows.{byte_of}
use Rattle.word_rows.proofs.masks.bytes_at.Given as goal

abbrev pub invariant-loop-k : goal.invariant-loop-k
invariant-loop-k l = record {
  bytes : l.out.items ≡ map (byte_of l.word) (take l.k-index l.places);
  len : length l.out.items ≡ l.k-index;
}
