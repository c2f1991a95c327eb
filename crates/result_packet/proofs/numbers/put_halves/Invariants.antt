use Rattle.std.proofs.Common.{◌≡◌, ◌<◌, ◌^◌, take}
use Rattle.std.specs.Prelude.{All}
use Rattle.esa_model.specs.Packet.{put, numbers}
use Rattle.result_packet.proofs.numbers.put_halves.Given as goal

abbrev pub invariant-loop-k : goal.invariant-loop-k
invariant-loop-k l = record {
  bytes : l.out ≡ put l.at (numbers 2 (take l.k l.values)) l.fn.out;
  fit : All (λ v. v < 2 ^ 16) (take l.k l.values);
}
