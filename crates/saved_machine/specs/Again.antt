-- A machine that is stood up again from a save.
-- Source: choice of this project.
use Rattle.std.specs.Prelude.{◌≡◌, ℕ, ◌*◌, ◌<◌, ◌==◌, if◌then◌else◌, IfSome, List, Some, drop, length, replicate, slice_get}
use Rattle.esa_model.specs.Bus.{signals_of}
use Rattle.esa_model.specs.declared.machine.Signals.{Signals}
use Rattle.run_model.specs.Checkpoint.{registers_of, words_of}
use Rattle.save_model.specs.Save.{Save}
use Rattle.save_model.specs.declared.parts.SavedCpu.{SavedCpu}
use Rattle.silicon.specs.Chip.{Chip}
use Rattle.core_turns.specs.Held.{HoldsRegisters, core_of}
use Rattle.core_turns.specs.declared.held.Held.{Held}
use Rattle.g5_machine.specs.declared.machine.Machine.{Machine}
use Rattle.saved_machine.specs.Numbers.{bit, call_number, mask_of, mode_number, retries_of, state_number, words_held}
use Rattle.saved_machine.specs.Saved.{saved}
use Rattle.saved_machine.specs.declared.counts.Counts.{Counts}

-- ---- what types say of the signals of one CPU

pub record HasFlags (s : Signals) : Type 0 where
  pub malfunction : length s.malfunction ≡ 8
  pub emergency : length s.emergency ≡ 8

-- the sender of an external call is a CPU that there can be
pub record HasCaller (s : Signals) : Type 0 where
  pub caller : IfSome s.external_call (λ c. c.0 < 255)

-- ---- what a save says of one CPU

pub record SaysSignals (c : SavedCpu) (s : Signals) : Type 0 where
  pub state : state_number s.state ≡ c.state
  pub restart : bit s.restart ≡ c.restart
  pub key : bit s.key ≡ c.key
  pub malfunction : mask_of s.malfunction ≡ c.malfunction
  pub emergency : mask_of s.emergency ≡ c.emergency
  pub external_call : call_number s.external_call ≡ c.external_call
  pub flags : HasFlags s
  pub caller : HasCaller s

pub record SaysHeld (c : SavedCpu) (h : Held) : Type 0 where
  pub mode : mode_number h ≡ c.mode
  pub core : core_of h ≡ c.core
  pub retries : retries_of h ≡ c.retries
  pub words : words_held h
      ≡ (if c.mode == 0 then words_of (registers_of c.words) else replicate 40 0)
  pub registers : HoldsRegisters h

-- ---- what is known of a machine

-- flags for eight CPUs at each CPU, and registers of their widths on each core that runs
pub record IsTyped (m : Machine) : Type 0 where
  pub flags : (i : ℕ) → i < length m.side.bus → HasFlags (signals_of m.side.bus i)
  pub registers : (i : ℕ) (h : Held) → slice_get m.cpus.items i ≡ Some h → HoldsRegisters h

pub record HasCallers (m : Machine) : Type 0 where
  pub calls : (i : ℕ) → i < length m.side.bus → HasCaller (signals_of m.side.bus i)

-- its CPUs, pages and keys are those of its configuration
pub record IsSized (m : Machine) : Type 0 where
  pub bus : length m.side.bus ≡ m.config.cpus
  pub keys : length m.side.keys ≡ m.config.pages
  pub storage : length m.memory.bytes ≡ 4096 * m.config.pages

-- ---- ---- stood up again

-- machine, counts and silicon of a save, with a console input; the script stays
pub record Again (s : Save) (console : List ℕ) (m : Machine) (n : Counts) (old new : Chip) :
    Type 0 where
  pub save : saved m n new ≡ s
  pub left : m.side.console ≡ drop s.numbers.console_read console
  pub typed : IsTyped m
  pub callers : HasCallers m
  pub sized : IsSized m
  pub lines : new.lines ≡ old.lines
