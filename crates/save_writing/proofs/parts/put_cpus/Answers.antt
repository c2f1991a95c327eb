use Rattle.std.proofs.Common.{arith}
use Rattle.std.specs.Vec.{vec_capacity}
use Rattle.save_writing.specs.Written.{cpu_written}
use Rattle.save_writing.proofs.Puts.{putting_start, putting_next, putting_end}
use Rattle.save_writing.proofs.parts.put_cpus.Goals as goal

pub cpus-init : goal.cpus-init
cpus-init c = putting_start cpu_written 336 c.args.cpus.now c.args.room.now.items (vec_capacity c.args.room.now)

pub cpus-preserved : goal.cpus-preserved
cpus-preserved c = putting_next cpu_written 336 c.args.cpus.now c.cpus.cpu-index _ c.args.room.now.items c.cpus.room.items c.put_cpu.new.room.items (vec_capacity c.args.room.now) (vec_capacity c.cpus.room) (vec_capacity c.put_cpu.new.room) c.cpus-test.true c.cpus.invariant c.put_cpu.ensures.items c.put_cpu.ensures.capacity c.put_cpu.ensures.length

pub returns-clause-items : goal.returns-clause-items
returns-clause-items c = putting_end cpu_written 336 c.args.cpus.now c.cpus.cpu-index c.args.room.now.items c.cpus.room.items (vec_capacity c.args.room.now) (vec_capacity c.cpus.room) (omega arith) c.cpus.invariant
