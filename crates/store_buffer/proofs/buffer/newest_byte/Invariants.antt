use Rattle.std.proofs.Common.{◌≡◌, drop}
use Rattle.std.specs.Option.{option_or}
use Rattle.store_buffer.specs.Waiting.{newest}
use Rattle.store_buffer.proofs.buffer.newest_byte.Given as goal

abbrev pub invariant-loop-entry : goal.invariant-loop-entry
invariant-loop-entry l = newest l.entries l.at ≡ option_or (newest (drop l.entry-index l.entries) l.at) l.found
