use Rattle.saved_machine.specs.Again.{SaysHeld}
use Rattle.machine_save.specs.Bringing.{Brought}
use Rattle.machine_save.proofs.bringing.all_held.Given as goal

abbrev pub invariant-cpus : goal.invariant-cpus
invariant-cpus l = Brought SaysHeld l.cpus l.i l.all.items
