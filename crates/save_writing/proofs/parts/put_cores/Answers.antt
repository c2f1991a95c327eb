use Rattle.std.proofs.Common.{arith}
use Rattle.std.specs.Vec.{vec_capacity}
use Rattle.save_writing.specs.Written.{core_written}
use Rattle.save_writing.proofs.Puts.{putting_start, putting_next, putting_end}
use Rattle.save_writing.proofs.parts.put_cores.Goals as goal

pub cores-init : goal.cores-init
cores-init c = putting_start core_written 656 c.args.cores.now c.args.room.now.items (vec_capacity c.args.room.now)

pub cores-preserved : goal.cores-preserved
cores-preserved c = putting_next core_written 656 c.args.cores.now c.cores.core-index _ c.args.room.now.items c.cores.room.items c.put_core.new.room.items (vec_capacity c.args.room.now) (vec_capacity c.cores.room) (vec_capacity c.put_core.new.room) c.cores-test.true c.cores.invariant c.put_core.ensures.items c.put_core.ensures.capacity c.put_core.ensures.length

pub returns-clause-items : goal.returns-clause-items
returns-clause-items c = putting_end core_written 656 c.args.cores.now c.cores.core-index c.args.room.now.items c.cores.room.items (vec_capacity c.args.room.now) (vec_capacity c.cores.room) (omega arith) c.cores.invariant
