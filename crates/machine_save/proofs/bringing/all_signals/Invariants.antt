use Rattle.saved_machine.specs.Again.{SaysSignals}
use Rattle.machine_save.specs.Bringing.{Brought}
use Rattle.machine_save.proofs.bringing.all_signals.Given as goal

abbrev pub invariant-cpus : goal.invariant-cpus
invariant-cpus l = Brought SaysSignals l.cpus l.i l.all.items
