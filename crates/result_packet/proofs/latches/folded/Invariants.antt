use Rattle.std.proofs.Common.{◌≡◌, ◌+◌, ◌%◌, drop}
use Rattle.esa_model.specs.Latch.{ones, ones_of}
use Rattle.result_packet.proofs.latches.folded.Given as goal

abbrev pub invariant-loop-byte : goal.invariant-loop-byte
invariant-loop-byte l =
    (ones 8 l.all + ones_of (drop l.byte-index l.bytes)) % 2 ≡ ones_of l.bytes % 2
