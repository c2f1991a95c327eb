use Rattle.std.proofs.Common.{◌≡◌, drop}
use Rattle.store_buffer.specs.Waiting.{meets_any}
use Rattle.store_buffer.proofs.buffer.meets_one.Given as goal

abbrev pub invariant-loop-other : goal.invariant-loop-other
invariant-loop-other l = meets_any l.entry l.others ≡ meets_any l.entry (drop l.other-index l.others)
