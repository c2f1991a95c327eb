use Rattle.std.proofs.Common.{length}
use Rattle.saved_machine.specs.Saved.{byte_at}
use Rattle.machine_save.proofs.Filling.{Filling}
use Rattle.machine_save.proofs.bringing.storage_of.Given as goal

abbrev pub invariant-bytes : goal.invariant-bytes
invariant-bytes l = Filling (byte_at l.bytes) (length l.bytes) l.at l.storage
