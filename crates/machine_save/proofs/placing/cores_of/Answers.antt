use Rattle.std.proofs.Common.{arith, refl}
use Rattle.saved_machine.specs.Saved.{core_at, cores_of}
use Rattle.machine_save.proofs.Filling.{filling_start, filling_next, filling_end}
use Rattle.machine_save.proofs.placing.cores_of.Goals as goal

pub cores-init : goal.cores-init
cores-init g c = filling_start (core_at c.args.m.now.config c.args.m.now.cpus.items c.args.m.now.pool (g.Z.Silicon.seen c.args.z.now)) 16 _ refl

pub cores-preserved : goal.cores-preserved
cores-preserved g c = filling_next (core_at c.args.m.now.config c.args.m.now.cpus.items c.args.m.now.pool (g.Z.Silicon.seen c.args.z.now)) 16 c.cores.k c.cores.cores c.core_at.result c.cores-test.true c.cores.invariant c.core_at.ensures

pub returns : goal.returns
unfolding cores_of
returns g c = filling_end (core_at c.args.m.now.config c.args.m.now.cpus.items c.args.m.now.pool (g.Z.Silicon.seen c.args.z.now)) 16 c.cores.k c.cores.cores (omega arith) (omega arith) c.cores.invariant
