-- When a machine and a silicon stand for a state of the definitions, and when a machine stands for
-- modes alone. Source: choice of this project.
use Rattle.std.specs.Prelude.{◌≡◌, ℕ, ◌<◌, Bool, true, false, Option, Some, None, length, slice_get}
use Rattle.esa_model.specs.Machine.{side_of}
use Rattle.esa_model.specs.declared.machine.Registers.{Registers}
use Rattle.run_model.specs.declared.faults.Mode.{Mode}
use Rattle.run_model.specs.declared.faults.Mode.TheVariants as mode
use Rattle.run_model.specs.Cores.{Cores}
use Rattle.run_model.specs.Runs.{Model}
use Rattle.silicon.specs.Chip.{Chip}
use Rattle.core_turns.specs.Held.{HeldBy, SparesAre}
use Rattle.core_turns.specs.Standing.{StandsAt}
use Rattle.core_turns.specs.declared.held.Held.{Held}
use Rattle.core_turns.specs.declared.held.Held.TheVariants.{Running, Recovering, Lost, Taken}
use Rattle.g5_machine.specs.Counts.{Counted}
use Rattle.g5_machine.specs.declared.machine.Machine.{Machine}

-- so many turns, commits, and bytes of the console read and written
pub record CountsAre (n : Counted) (x : Model) : Type 0 where
  pub turns : x.fate.cores.turns ≡ n.turns
  pub commits : x.fate.cores.commits ≡ n.commits
  pub read : x.machine.console_read ≡ n.read
  pub written : length x.machine.console_written ≡ n.written

pub record StandsFor (m : Machine) (z : Chip) (x : Model) : Type 0 where
  pub cpus : length m.cpus.items ≡ length x.machine.bus
  pub each : (i : ℕ) (h : Held) → slice_get m.cpus.items i ≡ Some h → StandsAt h z x i
  pub storage : x.machine.storage ≡ m.memory.bytes
  pub side : side_of x.machine ≡ m.side
  pub begun : (k : ℕ) → k < 16 → z.begun k ≡ x.fate.begun k
  pub spares : SparesAre m.pool x.fate.cores.spare
  pub counts : CountsAre m.counts x

-- ---- the same of modes, cores, retries and spares alone, whatever the silicon stores

pub record StandsByMode (m : Machine) (s : Cores) : Type 0 where
  pub each : (i : ℕ) (h : Held) → slice_get m.cpus.items i ≡ Some h → HeldBy h s i
  pub spares : SparesAre m.pool s.spare
  pub turns : s.turns ≡ m.counts.turns
  pub commits : s.commits ≡ m.counts.commits

-- ---- the registers that can be seen

-- only a core that runs has registers
abbrev pub registers_held : Held → Option Registers
registers_held (Running k) = Some k.registers
registers_held (Recovering k) = None
registers_held (Lost c retries) = None
registers_held Taken = None

abbrev pub registers_in : Mode → Registers → Option Registers
registers_in mode.Running r = Some r
registers_in mode.Recovering r = None
registers_in mode.Lost r = None

abbrev pub is_running : Mode → Bool
is_running mode.Running = true
is_running mode.Recovering = false
is_running mode.Lost = false
