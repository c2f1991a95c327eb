-- When what is held for a CPU, and what its core stores, stand for a state of the definitions.
-- Source: choice of this project.
use Rattle.std.specs.Prelude.{◌≡◌, ℕ, false}
use Rattle.run_model.specs.Cores.{is_lost}
use Rattle.run_model.specs.Runs.{Model}
use Rattle.runit_ecc.specs.Bounds.{AreRegisters}
use Rattle.silicon.specs.Chip.{Chip}
use Rattle.checkpoint_laws.specs.Stored.{ClocksFit, StoredAs}
use Rattle.core_turns.specs.Giving.{HasRegisters}
use Rattle.core_turns.specs.Held.{HeldBy}
use Rattle.core_turns.specs.declared.held.Held.{Held}

-- the core of CPU i stores its registers, with the wrong positions of the state and no others
pub record StoresCpu (z : Chip) (x : Model) (i : ℕ) : Type 0 where
  pub registers : AreRegisters (x.machine.registers i)
  pub clocks : ClocksFit (x.machine.registers i)
  pub words : StoredAs z (x.fate.cores.core i) (x.machine.registers i)
      (x.fate.wrong (x.fate.cores.core i))

-- what is held for CPU i, and what its core stores unless it is lost
pub record StandsAt (h : Held) (z : Chip) (x : Model) (i : ℕ) : Type 0 where
  pub held : HeldBy h x.fate.cores i
  pub registers : HasRegisters h x.machine i
  pub stores : is_lost (x.fate.cores.mode i) ≡ false → StoresCpu z x i
