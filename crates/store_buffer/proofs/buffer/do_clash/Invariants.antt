use Rattle.std.proofs.Common.{◌≡◌, drop}
use Rattle.store_buffer.specs.Waiting.{clash}
use Rattle.store_buffer.proofs.buffer.do_clash.Given as goal

abbrev pub invariant-loop-entry : goal.invariant-loop-entry
invariant-loop-entry l = clash l.entries l.others ≡ clash (drop l.entry-index l.entries) l.others
