use Rattle.std.specs.Vec.{vec_capacity}
use Rattle.machine_save.proofs.Behind.{keys_start, keys_next}
use Rattle.machine_save.proofs.saving.put_keys.Goals as goal

pub keys-init : goal.keys-init
keys-init c = keys_start c.args.m.now.side.keys c.args.room.now.bytes.items (vec_capacity c.args.room.now.bytes)

pub keys-preserved : goal.keys-preserved
keys-preserved c = keys_next c.args.m.now.side.keys c.args.room.now.bytes.items c.keys.room.bytes.items c.put_key.new.room.bytes.items (vec_capacity c.args.room.now.bytes) (vec_capacity c.keys.room.bytes) (vec_capacity c.put_key.new.room.bytes) c.keys.block c.key_at.result c.keys.invariant c.key_at.ensures c.put_key.ensures.items c.put_key.ensures.capacity c.put_key.ensures.length
