use Rattle.saved_machine.specs.Saved.{cpu_at}
use Rattle.machine_save.proofs.Filling.{Filling}
use Rattle.machine_save.proofs.saving.cpus_of.Given as goal

abbrev pub invariant-cpus : goal.invariant-cpus
invariant-cpus l = Filling (cpu_at l.m.cpus.items l.m.side.bus) 8 l.i l.cpus
