use Rattle.g5_machine.specs.Starting.{SparesTo}
use Rattle.g5_machine.proofs.starting.add_spares.Given as goal

abbrev pub invariant-loop-j : goal.invariant-loop-j
invariant-loop-j l = SparesTo l.j l.pool
