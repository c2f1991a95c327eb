-- The numbers of a save that say what holds of a CPU.
-- Source: choice of this project.
use Rattle.std.specs.Prelude.{ℕ, ◌+◌, ◌*◌, if◌then◌else◌, List, Bool, false, Option, Some, None, replicate, slice_index_or}
use Rattle.esa_model.specs.declared.machine.CpuNo.{CpuNo}
use Rattle.esa_model.specs.declared.machine.CpuState.{CpuState}
use Rattle.esa_model.specs.declared.machine.CpuState.TheVariants.{Operating, Stopped, CheckStop}
use Rattle.esa_model.specs.declared.machine.Signals.{Signals}
use Rattle.run_model.specs.Checkpoint.{words_of}
use Rattle.save_model.specs.declared.parts.SavedCpu.{SavedCpu}
use Rattle.core_turns.specs.Held.{core_of}
use Rattle.core_turns.specs.declared.held.Held.{Held}
use Rattle.core_turns.specs.declared.held.Held.TheVariants.{Running, Recovering, Lost, Taken}

-- ---- states and requests

abbrev pub bit : Bool → ℕ
bit b = if b then 1 else 0

abbrev pub state_number : CpuState → ℕ
state_number Operating = 0
state_number Stopped = 1
state_number CheckStop = 2

-- the flag of CPU j
abbrev pub flag : List Bool → ℕ → Bool
flag flags j = slice_index_or flags j false

-- flags of eight CPUs as one number: that of CPU j has the weight 2^j
abbrev pub mask_of : List Bool → ℕ
mask_of fs =
    bit (flag fs 0) + 2 * (bit (flag fs 1) + 2 * (bit (flag fs 2) + 2 * (bit (flag fs 3)
    + 2 * (bit (flag fs 4) + 2 * (bit (flag fs 5) + 2 * (bit (flag fs 6) + 2 * bit (flag fs 7)))))))

-- the CPU whose call is pending; 255 where there is none
abbrev pub call_number : Option CpuNo → ℕ
call_number None = 255
call_number (Some c) = c.0

-- ---- what is held

abbrev pub mode_number : Held → ℕ
mode_number (Running k) = 0
mode_number (Recovering k) = 1
mode_number (Lost c retries) = 2
mode_number Taken = 3

abbrev pub retries_of : Held → ℕ
retries_of (Running k) = k.retries
retries_of (Recovering k) = k.retries
retries_of (Lost c retries) = retries
retries_of Taken = 0

-- the checkpoint words of the registers, zeros where the core does not run
abbrev pub words_held : Held → List ℕ
words_held (Running k) = words_of k.registers
words_held (Recovering k) = replicate 40 0
words_held (Lost c retries) = replicate 40 0
words_held Taken = replicate 40 0

-- ---- a CPU: what is held for it, and its signals

unfoldable pub saved_cpu : Held → Signals → SavedCpu
saved_cpu h s = record {
  mode = mode_number h;
  core = core_of h;
  retries = retries_of h;
  state = state_number s.state;
  restart = bit s.restart;
  key = bit s.key;
  malfunction = mask_of s.malfunction;
  emergency = mask_of s.emergency;
  external_call = call_number s.external_call;
  zeros = 0;
  words = words_held h;
}
