-- The cores of a machine as the definitions have them: modes, cores and retries of the CPUs, and the
-- spares. Source: choice of this project.
use Rattle.std.specs.Prelude.{ℕ, Option, Some, None, slice_get}
use Rattle.core_turns.specs.Held.{spare_number}
use Rattle.core_turns.specs.declared.held.Held.{Held}
use Rattle.core_turns.specs.declared.held.Held.TheVariants.{Running, Recovering, Lost, Taken}
use Rattle.g5_machine.specs.Turning.{core_at}
use Rattle.g5_machine.specs.declared.machine.Machine.{Machine}
use Rattle.run_model.specs.Cores.{Cores}
use Rattle.run_model.specs.declared.faults.Mode.{Mode}
use Rattle.run_model.specs.declared.faults.Mode.TheVariants as mode
use Rattle.sparing.specs.Pools.{stands}

abbrev pub mode_there : Option Held → Mode
mode_there None = mode.Lost
mode_there (Some (Running k)) = mode.Running
mode_there (Some (Recovering k)) = mode.Recovering
mode_there (Some (Lost c retries)) = mode.Lost
mode_there (Some Taken) = mode.Lost

abbrev pub retries_there : Option Held → ℕ
retries_there None = 0
retries_there (Some (Running k)) = k.retries
retries_there (Some (Recovering k)) = k.retries
retries_there (Some (Lost c retries)) = retries
retries_there (Some Taken) = 0

unfoldable pub cores_of : Machine → Cores
cores_of m = record {
  core = λ i. core_at m.cpus.items i;
  mode = λ i. mode_there (slice_get m.cpus.items i);
  retries = λ i. retries_there (slice_get m.cpus.items i);
  spare = λ k. stands spare_number m.pool.spares k;
  turns = m.counts.turns;
  commits = m.counts.commits;
}
