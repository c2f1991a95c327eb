use Rattle.std.proofs.Common.{arith}
use Rattle.std.specs.Vec.{vec_capacity}
use Rattle.byteorder.specs.Endian.{big_bytes}
use Rattle.save_writing.proofs.Puts.{putting_start, putting_next, putting_end}
use Rattle.save_writing.proofs.numbers.put_bytes.Goals as goal

pub bytes-init : goal.bytes-init
bytes-init c = putting_start (λ n. big_bytes 1 n) 1 c.args.bytes.now c.args.room.now.items (vec_capacity c.args.room.now)

pub returns-clause-items : goal.returns-clause-items
returns-clause-items c = putting_end (λ n. big_bytes 1 n) 1 c.args.bytes.now c.bytes.byte-index c.args.room.now.items c.bytes.room.items (vec_capacity c.args.room.now) (vec_capacity c.bytes.room) (omega arith) c.bytes.invariant

pub bytes-preserved : goal.bytes-preserved
bytes-preserved c = putting_next (λ n. big_bytes 1 n) 1 c.args.bytes.now c.bytes.byte-index _ c.args.room.now.items c.bytes.room.items c.put_one.new.room.items (vec_capacity c.args.room.now) (vec_capacity c.bytes.room) (vec_capacity c.put_one.new.room) c.bytes-test.true c.bytes.invariant c.put_one.ensures.items c.put_one.ensures.capacity c.put_one.ensures.length

pub put_one-requires : goal.put_one-requires
put_one-requires c = omega (arith, c.bytes-test.true, c.requires, c.bytes.invariant.long, c.bytes.invariant.capacity)
