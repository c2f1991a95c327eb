use Rattle.std.proofs.Common.{◌≡◌, take}
use Rattle.std.specs.Prelude.{nat_lt}
use Rattle.core_turns.specs.Places.{with_cpus}
use Rattle.machine_save.proofs.placing.is_with_cpu.Given as goal

abbrev pub invariant-cpus : goal.invariant-cpus
invariant-cpus l = l.found ≡ nat_lt 0 (with_cpus l.core (take l.i l.m.cpus.items))
