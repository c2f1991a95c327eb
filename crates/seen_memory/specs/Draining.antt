-- Committed stores that reach the storage: what is seen stays.
-- Source: choice of this project.
use Rattle.std.specs.Prelude.{ℕ, ◌≡◌, ◌≢◌, ◌≤◌, ◌<◌, false, List, length}
use Rattle.store_buffer.specs.Waiting.{Waiting, clash}
use Rattle.seen_memory.specs.Seen.{seen, committed_at, held_at, Kept}

-- committed pieces of buffer k were stored, oldest first
pub record Drained (k : ℕ) (bs : List Waiting) (s : List ℕ) (cs : List Waiting) (t : List ℕ) : Type 0 where
  pub kept : Kept cs t
  pub same : seen cs t ≡ seen bs s
  pub size : length t ≡ length s
  pub held : (j : ℕ) → held_at cs j ≡ held_at bs j
  pub beside : (j : ℕ) → k ≢ j → committed_at cs j ≡ committed_at bs j

-- of the buffers below n, buffer i apart, those were drained whole that had a byte of what buffer i
-- holds
pub record Settled (i n : ℕ) (bs : List Waiting) (s : List ℕ) (cs : List Waiting) (t : List ℕ) : Type 0 where
  pub kept : Kept cs t
  pub same : seen cs t ≡ seen bs s
  pub size : length t ≡ length s
  pub held : (j : ℕ) → held_at cs j ≡ held_at bs j
  pub own : committed_at cs i ≡ committed_at bs i
  pub fewer : (j : ℕ) → length (committed_at cs j) ≤ length (committed_at bs j)
  pub clear : (j : ℕ) → i ≢ j → j < n → clash (committed_at cs j) (held_at cs i) ≡ false
