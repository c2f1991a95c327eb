-- What is written into the journal of a turn. Source: choice of this project.
use Rattle.std.specs.Prelude.{◌≡◌, ℕ, List, [], ◌++◌}
use Rattle.esa_model.specs.declared.machine.CpuNo.{CpuNo}
use Rattle.run_model.specs.declared.faults.CoreNo.{CoreNo}
use Rattle.run_model.specs.declared.logs.Entry.{Entry}
use Rattle.run_model.specs.declared.logs.What.{What}
use Rattle.run_model.specs.Cores.{stamped}
use Rattle.core_turns.specs.declared.journal.Stamp.{Stamp}

-- the entries of a turn of a CPU on a core
pub record Journal : Type 0 where
  pub turn : ℕ
  pub cpu : CpuNo
  pub core : CoreNo
  pub entries : List Entry

abbrev pub noted : Stamp → List Entry → Journal
noted s es = record { turn = s.turn; cpu = s.cpu; core = s.core; entries = es }

-- these are entries of its turn, CPU and core, in this order
pub record Logs (old new : Journal) (whats : List What) : Type 0 where
  pub turn : new.turn ≡ old.turn
  pub cpu : new.cpu ≡ old.cpu
  pub core : new.core ≡ old.core
  pub entries : new.entries ≡ old.entries ++ stamped old.turn old.cpu.0 old.core.0 whats

-- these are all its entries
abbrev pub Tells : Journal → Journal → List What → Type 0
Tells old new whats = new.entries ≡ stamped old.turn old.cpu.0 old.core.0 whats

-- nothing is written into it yet, and it is for a turn of this CPU on this core
pub record IsBlank (j : Journal) (i c : ℕ) : Type 0 where
  pub cpu : j.cpu.0 ≡ i
  pub core : j.core.0 ≡ c
  pub entries : j.entries ≡ []
