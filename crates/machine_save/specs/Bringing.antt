-- The parts of a machine, as they are brought from a save one by one.
-- Source: choice of this project.
use Rattle.std.specs.Prelude.{◌≡◌, ℕ, ◌+◌, ◌<◌, ◌≤◌, ◌==◌, ◌&&◌, nat_lt, if◌then◌else◌, List, Option, Some, None, length, slice_get, slice_index}
use Rattle.save_model.specs.declared.parts.SavedCore.{SavedCore}
use Rattle.save_model.specs.declared.parts.SavedCpu.{SavedCpu}
use Rattle.silicon.specs.Chip.{Chip}
use Rattle.sparing.specs.Pools.{holds}
use Rattle.core_turns.specs.Held.{CorePool, fenced_number, spare_number}

-- ---- the CPUs

-- numbers that say what there can be
pub record CanBe (c : SavedCpu) : Type 0 where
  pub mode : c.mode ≤ 2
  pub core : c.core < 16
  pub state : c.state ≤ 2
  pub restart : c.restart ≤ 1
  pub key : c.key ≤ 1

abbrev pub AllCanBe : List SavedCpu → Type 0
AllCanBe cpus = (j : ℕ) (c : SavedCpu) → slice_get cpus j ≡ Some c → CanBe c

-- n of them are brought, each so
pub record Brought {B : Type 0} (P : SavedCpu → B → Type 0) (cpus : List SavedCpu) (n : ℕ) (xs : List B) :
    Type 0 where
  pub long : length xs ≡ n
  pub each : (j : ℕ) (c : SavedCpu) (x : B) → slice_get cpus j ≡ Some c → slice_get xs j ≡ Some x
      → P c x

-- ---- the silicon

-- the first n words of a core are these; all else stays
pub record Stores (core : ℕ) (words : List ℕ) (n : ℕ) (old new : Chip) : Type 0 where
  pub lines : new.lines ≡ old.lines
  pub begun : (c : ℕ) → new.begun c ≡ old.begun c
  pub word : (c w : ℕ) → w < 40 → new.word c w
      ≡ (if c == core && nat_lt w n then slice_index words w else old.word c w)

-- core k has begun its attempts and stores its words; every other core stays
pub record IsStored (k : ℕ) (core : SavedCore) (old new : Chip) : Type 0 where
  pub lines : new.lines ≡ old.lines
  pub begun : (c : ℕ) → new.begun c ≡ (if c == k then core.begun else old.begun c)
  pub word : (c w : ℕ) → w < 40 → new.word c w
      ≡ (if c == k then slice_index core.stored w else old.word c w)

-- the cores below n have; no attempt of the others was begun
pub record StoresTo (n : ℕ) (cores : List SavedCore) (old new : Chip) : Type 0 where
  pub lines : new.lines ≡ old.lines
  pub begun : (k : ℕ) (c : SavedCore) → k < n → slice_get cores k ≡ Some c → new.begun k ≡ c.begun
  pub word : (k w : ℕ) (c : SavedCore) → k < n → w < 40 → slice_get cores k ≡ Some c
      → new.word k w ≡ slice_index c.stored w
  pub none : (k : ℕ) → n ≤ k → k < 16 → new.begun k ≡ 0

-- ---- the pool

abbrev pub place_said : Option SavedCore → ℕ
place_said None = 0
place_said (Some c) = c.place

abbrev pub place_in : List SavedCore → ℕ → ℕ
place_in cores k = place_said (slice_get cores k)

-- once, where core k is below n and in this place
abbrev pub once : List SavedCore → ℕ → ℕ → ℕ → ℕ
once cores n place k = if nat_lt k n && (place_in cores k == place) then 1 else 0

-- the cores below n that are spares or fenced are in the pool
pub record PoolTo (n : ℕ) (cores : List SavedCore) (p : CorePool) : Type 0 where
  pub spares : (k : ℕ) → holds spare_number k p.spares ≡ once cores n 2 k
  pub fenced : (k : ℕ) → holds fenced_number k p.fenced ≡ once cores n 3 k

-- one core more, where its place says so
pub record OneMore (core place : ℕ) (p q : CorePool) : Type 0 where
  pub spares : (k : ℕ) → holds spare_number k q.spares
      ≡ (if core == k && place == 2 then 1 else 0) + holds spare_number k p.spares
  pub fenced : (k : ℕ) → holds fenced_number k q.fenced
      ≡ (if core == k && place == 3 then 1 else 0) + holds fenced_number k p.fenced
