use Rattle.saved_machine.specs.Saved.{core_at}
use Rattle.machine_save.proofs.Filling.{Filling}
use Rattle.machine_save.proofs.placing.cores_of.Given as goal

abbrev pub invariant-cores : goal.invariant-cores
invariant-cores g l = Filling (core_at l.m.config l.m.cpus.items l.m.pool (g.Z.Silicon.seen l.z)) 16 l.k l.cores
