use Rattle.std.proofs.Common.{length}
use Rattle.saved_machine.specs.Saved.{byte_at}
use Rattle.machine_save.proofs.Filling.{Filling}
use Rattle.machine_save.proofs.bringing.keys_of.Given as goal

abbrev pub invariant-keys : goal.invariant-keys
invariant-keys l = Filling (byte_at l.bytes) (length l.bytes) l.block l.keys
