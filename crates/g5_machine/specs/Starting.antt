-- The cores of a machine that has made no turn: core k runs for CPU k with the registers of the
-- start, spare j is core 8 + j. Source: choice of this project.
use Rattle.std.specs.Prelude.{◌≡◌, ◌≤◌, ◌<◌, ℕ, ◌+◌, List, [], ◌&&◌, nat_le, nat_lt, Some, length, slice_get, if◌then◌else◌}
use Rattle.esa_model.specs.Machine.{start_registers}
use Rattle.silicon.specs.Chip.{Chip}
use Rattle.sparing.specs.Pools.{holds}
use Rattle.core_states.specs.Words.{Fills}
use Rattle.checkpoint_laws.specs.Stored.{StoredAs}
use Rattle.core_turns.specs.Held.{AreStorable, CorePool, spare_number}
use Rattle.core_turns.specs.Places.{with_cpus}
use Rattle.core_turns.specs.declared.held.Held.{Held}
use Rattle.core_turns.specs.declared.held.Held.TheVariants.{Running, Recovering, Lost, Taken}

-- core i runs with the registers of CPU i at the start, at the entry of a deck
abbrev pub RunsFirst : ℕ → ℕ → Held → Type 0
RunsFirst entry i (Running k) =
    (k.core.0 ≡ i) × (k.registers ≡ start_registers entry i) × (k.retries ≡ 0)
RunsFirst entry i (Recovering k) = ⊥
RunsFirst entry i (Lost c retries) = ⊥
RunsFirst entry i Taken = ⊥

-- it was woken, and its words are written
pub record Wakes (entry i : ℕ) (old new : Chip) (h : Held) : Type 0 where
  pub held : RunsFirst entry i h
  pub fits : AreStorable (start_registers entry i)
  pub words : Fills i (start_registers entry i) old new

-- what is held for CPU i, and what its core stores: nothing is wrong
pub record StartsAt (entry i : ℕ) (z : Chip) (h : Held) : Type 0 where
  pub held : RunsFirst entry i h
  pub fits : AreStorable (start_registers entry i)
  pub words : StoredAs z i (start_registers entry i) (λ w. 0)

-- the cores of the first n CPUs were woken, each in its order; the words of every other core stay
pub record WokenTo (entry n : ℕ) (old new : Chip) (held : List Held) : Type 0 where
  pub all : length held ≡ n
  pub each : (i : ℕ) (h : Held) → slice_get held i ≡ Some h → StartsAt entry i new h
  pub places : (k : ℕ) → with_cpus k held ≡ (if nat_lt k n then 1 else 0)
  pub lines : new.lines ≡ old.lines
  pub begun : (k : ℕ) → new.begun k ≡ old.begun k
  pub words : (k w : ℕ) → n ≤ k → w < 40 → new.word k w ≡ old.word k w

-- the pool has n spares, core 8 and those after it, and no core is fenced
pub record SparesTo (n : ℕ) (p : CorePool) : Type 0 where
  pub spares : (k : ℕ) → holds spare_number k p.spares
      ≡ (if nat_le 8 k && nat_lt k (8 + n) then 1 else 0)
  pub fenced : p.fenced ≡ []
