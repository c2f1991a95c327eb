use Rattle.std.proofs.Common.{◌≡◌, ◌+◌, length, drop}
use Rattle.esa_model.specs.Apply.{put_all}
use Rattle.result_packet.proofs.apply.store_bytes.Given as goal

abbrev pub invariant-loop-k : goal.invariant-loop-k
invariant-loop-k l = record {
  size : length l.storage ≡ length l.fn.storage;
  storage : put_all l.at l.bytes l.fn.storage ≡ put_all (l.at + l.k) (drop l.k l.bytes) l.storage;
}
