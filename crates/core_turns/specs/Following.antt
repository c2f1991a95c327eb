-- What a turn of a CPU leaves, where the script is within the premise, in the terms of the
-- definitions. Source: choice of this project.
use Rattle.std.specs.Prelude.{◌≡◌, ◌≢◌, ℕ, ◌+◌, ◌<◌, false, List}
use Rattle.esa_model.specs.Line.{Side}
use Rattle.esa_model.specs.Machine.{Machine, side_of}
use Rattle.esa_model.specs.Run.{run}
use Rattle.esa_model.specs.declared.machine.CpuNo.{CpuNo}
use Rattle.esa_model.specs.declared.machine.Registers.{Registers}
use Rattle.run_model.specs.declared.logs.Config.{Config}
use Rattle.run_model.specs.declared.logs.Entry.{Entry}
use Rattle.run_model.specs.declared.schedules.RunKind.TheVariants.{Turns}
use Rattle.run_model.specs.Cores.{Did, does, is_lost}
use Rattle.run_model.specs.Fate.{Bits, Fate, Sound, bits_by, met, sight}
use Rattle.run_model.specs.Runs.{Model, events_of, tells, turned}
use Rattle.run_model.specs.Script.{InForm}
use Rattle.silicon.specs.Chip.{Chip}
use Rattle.checkpoint_laws.specs.Stored.{FewWrong, StoredAs}
use Rattle.core_turns.specs.Giving.{KeepsCount, SeenBy, told_of}
use Rattle.core_turns.specs.Held.{CorePool, IsThere, SparesAre}
use Rattle.core_turns.specs.Standing.{StandsAt}
use Rattle.core_turns.specs.declared.held.Held.{Held}
use Rattle.core_turns.specs.Made.{Made}

-- the state before it
pub record IsBefore (c : Config) (n : ℕ) (cpu : CpuNo) (h : Held) (z : Chip) (bytes : List ℕ)
    (seen : Side) (p : CorePool) (x : Model) : Type 0 where
  pub there : IsThere h
  pub at : StandsAt h z x cpu.0
  pub seen_by : SeenBy x.machine cpu.0 bytes seen
  pub spares : SparesAre p x.fate.cores.spare
  pub begun : (k : ℕ) → k < 16 → z.begun k ≡ x.fate.begun k
  pub form : InForm z.lines
  pub few : is_lost (x.fate.cores.mode cpu.0) ≡ false
      → FewWrong (x.fate.wrong (x.fate.cores.core cpu.0))
  pub turns : x.fate.cores.turns + 1 ≡ n
  pub sound : Sound z.lines (turned z.lines c x (Turns cpu)).fate

-- what the definitions say that it does
abbrev pub did : Chip → Config → Model → ℕ → Did
did z c x i = does c.threshold x.fate.cores i (met z.lines (sight x.machine i) x.fate i)

abbrev pub bits_then : Chip → Config → Model → ℕ → Bits
bits_then z c x i =
    bits_by z.lines c.threshold (sight x.machine i) x.fate i (x.fate.cores.mode i)

-- after a turn of CPU i that did d, the registers of whose CPU are r then: its core stores them, unless
-- it is lost; so does each other core store what it did, if no spare; all with the wrong positions of
-- the fate
pub record Leaves (z z2 : Chip) (s : Fate) (b : Bits) (d : Did) (i : ℕ) (r : Registers) : Type 0 where
  pub begun : (k : ℕ) → z.begun k ≡ s.begun k → z2.begun k ≡ b.begun k
  pub own : is_lost (d.after.mode i) ≡ false
      → StoredAs z2 (d.after.core i) r (b.wrong (d.after.core i))
  pub others : (k : ℕ) (q : Registers)
      → (is_lost (s.cores.mode i) ≡ false → k ≢ s.cores.core i) → s.cores.spare k ≡ false
      → StoredAs z k q (s.wrong k) → StoredAs z2 k q (b.wrong k)

-- the registers of CPU i after what it did
abbrev pub registers_then : Machine → ℕ → Did → Registers
registers_then m i d = (run m (events_of d.event)).registers i

-- the state after it
pub record Followed (c : Config) (cpu : CpuNo) (z z2 : Chip) (bytes2 : List ℕ) (seen2 : Side)
    (p2 : CorePool) (es : List Entry) (t : Made) (x y : Model) : Type 0 where
  pub told : told_of cpu.0 es t ≡ tells z.lines c x (Turns cpu)
  pub at : StandsAt t.held z2 y cpu.0
  pub storage : y.machine.storage ≡ bytes2
  pub side : side_of y.machine ≡ seen2
  pub spares : SparesAre p2 y.fate.cores.spare
  pub registers : (j : ℕ) → j ≢ cpu.0 → y.machine.registers j ≡ x.machine.registers j
  pub console : KeepsCount x.machine y.machine t.written.console.items
  pub leaves : Leaves z z2 x.fate (bits_then z c x cpu.0) (did z c x cpu.0) cpu.0
      (y.machine.registers cpu.0)
