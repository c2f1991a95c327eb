use Rattle.std.specs.Vec.{vec_capacity}
use Rattle.machine_save.proofs.Behind.{bytes_start, bytes_next}
use Rattle.machine_save.proofs.saving.put_storage.Goals as goal

pub bytes-init : goal.bytes-init
bytes-init c = bytes_start c.args.m.now.memory.bytes c.args.room.now.bytes.items (vec_capacity c.args.room.now.bytes)

pub bytes-preserved : goal.bytes-preserved
bytes-preserved c = bytes_next c.args.m.now.memory.bytes c.args.room.now.bytes.items c.bytes.room.bytes.items c.put_byte.new.self.bytes.items (vec_capacity c.args.room.now.bytes) (vec_capacity c.bytes.room.bytes) (vec_capacity c.put_byte.new.self.bytes) c.bytes.at c.byte_at.result c.bytes.invariant c.byte_at.ensures c.put_byte.ensures.items c.put_byte.ensures.capacity c.put_byte.ensures.length
