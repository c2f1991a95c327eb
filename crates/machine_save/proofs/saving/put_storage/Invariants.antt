use Rattle.std.specs.Vec.{vec_capacity}
use Rattle.saved_machine.specs.Saved.{first_bytes}
use Rattle.machine_save.proofs.Behind.{Behind}
use Rattle.machine_save.proofs.saving.put_storage.Given as goal

abbrev pub invariant-bytes : goal.invariant-bytes
invariant-bytes l = Behind l.initial.room.bytes.items (first_bytes l.m.memory.bytes l.at) l.room.bytes.items (vec_capacity l.initial.room.bytes) (vec_capacity l.room.bytes) l.at
