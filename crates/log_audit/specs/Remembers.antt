-- What a pass remembers of the entries so far, the latest first. Source: choice of this project.
use Rattle.std.specs.Prelude.{⊤, ◌≡◌, ℕ, ◌<◌, ◌≤◌, ◌^◌, List, [], ◌∷◌, Some, slice_get, slice_index}
use Rattle.run_model.specs.declared.logs.Entry.{Entry}
use Rattle.run_model.specs.Lawful.{back, core_at, fences, gone}
use Rattle.log_audit.specs.declared.memory.Memory.{Memory}
use Rattle.log_audit.specs.Remembered.{known, recent}

-- the turn of the last entry; of none it is 0
abbrev pub last_turn : List Entry → ℕ
last_turn [] = 0
last_turn (e ∷ past) = e.turn

-- no entry stands in a later turn than the last
abbrev pub Sorted : List Entry → Type 0
Sorted [] = ⊤
Sorted (e ∷ past) = (last_turn past ≤ e.turn) × Sorted past

-- of n entries
pub record Remembers (past : List Entry) (n : ℕ) (m : Memory) : Type 0 where
  pub cpus : (i : ℕ) → i < 8 → slice_get m.cpus i ≡ Some (known i past)
  pub last : m.last ≡ recent past
  pub returned : (k : ℕ) → k < 16 → slice_index m.returned k ≡ back k past
  pub taken : (k : ℕ) → k < 16 → slice_index m.taken k ≡ gone k past
  pub fenced : (k : ℕ) → k < 16 → slice_index m.fenced k ≡ fences k past
  pub returned_few : (k : ℕ) → k < 16 → slice_index m.returned k ≤ n
  pub taken_few : (k : ℕ) → k < 16 → slice_index m.taken k ≤ n
  pub fenced_few : (k : ℕ) → k < 16 → slice_index m.fenced k ≤ n
  -- no core past the sixteenth is with a CPU, so none was fenced
  pub near : (i : ℕ) → i < 8 → core_at i past < 16
  pub far : (k : ℕ) → 16 ≤ k → fences k past ≡ 0
  pub sorted : Sorted past

-- another entry can be counted
pub record HasRoom (m : Memory) : Type 0 where
  pub returned : (k : ℕ) → k < 16 → slice_index m.returned k < 2 ^ 32
  pub taken : (k : ℕ) → k < 16 → slice_index m.taken k < 2 ^ 32
  pub fenced : (k : ℕ) → k < 16 → slice_index m.fenced k < 2 ^ 32
