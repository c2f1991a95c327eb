-- What a machine holds for a CPU, and how it stands for the CPU's mode, core and retries.
-- Source: choice of this project.
use Rattle.std.specs.Prelude.{⊤, ◌≡◌, ℕ, Bool}
use Rattle.core_states.specs.declared.cores.FencedCore.{FencedCore}
use Rattle.core_states.specs.declared.cores.SpareCore.{SpareCore}
use Rattle.esa_model.specs.declared.machine.Registers.{Registers}
use Rattle.run_model.specs.declared.faults.Mode.TheVariants as mode
use Rattle.run_model.specs.Cores.{Cores}
use Rattle.runit_ecc.specs.Bounds.{AreRegisters}
use Rattle.checkpoint_laws.specs.Stored.{ClocksFit}
use Rattle.sparing.specs.Pools.{Pooled, stands}
use Rattle.core_turns.specs.declared.held.Held.{Held}
use Rattle.core_turns.specs.declared.held.Held.TheVariants.{Running, Recovering, Lost, Taken}

-- the core that the CPU has; one that is lost goes on naming the core that it had
abbrev pub core_of : Held → ℕ
core_of (Running k) = k.core.0
core_of (Recovering k) = k.core.0
core_of (Lost c retries) = c.0
core_of Taken = 0

-- mode, core and retries are those of CPU i
abbrev pub HeldBy : Held → Cores → ℕ → Type 0
HeldBy (Running k) s i =
    (s.mode i ≡ mode.Running) × (s.core i ≡ k.core.0) × (s.retries i ≡ k.retries)
HeldBy (Recovering k) s i =
    (s.mode i ≡ mode.Recovering) × (s.core i ≡ k.core.0) × (s.retries i ≡ k.retries)
HeldBy (Lost c retries) s i =
    (s.mode i ≡ mode.Lost) × (s.core i ≡ c.0) × (s.retries i ≡ retries)
HeldBy Taken s i = ⊥

-- it is not that a turn is being made
abbrev pub IsThere : Held → Type 0
IsThere (Running k) = ⊤
IsThere (Recovering k) = ⊤
IsThere (Lost c retries) = ⊤
IsThere Taken = ⊥

-- the registers of a running core; of another none are held
abbrev pub RunsWith : Held → Registers → Type 0
RunsWith (Running k) r = k.registers ≡ r
RunsWith (Recovering k) r = ⊤
RunsWith (Lost c retries) r = ⊤
RunsWith Taken r = ⊤

-- registers whose numbers have the widths of the words that store them
pub record AreStorable (r : Registers) : Type 0 where
  pub registers : AreRegisters r
  pub clocks : ClocksFit r

-- those of a running core are such
abbrev pub HoldsRegisters : Held → Type 0
HoldsRegisters (Running k) = AreStorable k.registers
HoldsRegisters (Recovering k) = ⊤
HoldsRegisters (Lost c retries) = ⊤
HoldsRegisters Taken = ⊤

-- a pool of spare and fenced cores, as contracts see it
abbrev pub CorePool : Type 0
CorePool = Pooled SpareCore FencedCore

abbrev pub spare_number : SpareCore → ℕ
spare_number k = k.core.0

abbrev pub fenced_number : FencedCore → ℕ
fenced_number f = f.core.0

-- the spares of a pool are those of the state
abbrev pub SparesAre : CorePool → (ℕ → Bool) → Type 0
SparesAre p spare = (k : ℕ) → spare k ≡ stands spare_number p.spares k
