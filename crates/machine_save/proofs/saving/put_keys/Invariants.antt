use Rattle.std.specs.Vec.{vec_capacity}
use Rattle.machine_save.proofs.Behind.{Behind, keys_to}
use Rattle.machine_save.proofs.saving.put_keys.Given as goal

abbrev pub invariant-keys : goal.invariant-keys
invariant-keys l = Behind l.initial.room.bytes.items (keys_to l.m.side.keys l.block) l.room.bytes.items (vec_capacity l.initial.room.bytes) (vec_capacity l.room.bytes) l.block
