-- A storage as all CPUs see it, through the committed stores that have not reached it.
-- Source: choice of this project.
use Rattle.std.specs.Prelude.{ℕ, zero, suc, ◌+◌, ◌≡◌, ◌≢◌, ◌≤◌, false, List, [], ◌∷◌, length, Option, None, ⊤}
use Rattle.std.specs.Option.{option_or}
use Rattle.esa_model.specs.Apply.{Piece, stored_all}
use Rattle.store_buffer.specs.Waiting.{Waiting, newest, clash}

-- the storage with all that is committed in buffers; the first buffer by CPU number is stored last
abbrev pub seen : List Waiting → List ℕ → List ℕ
seen [] storage = storage
seen (b ∷ bs) storage = stored_all b.committed (seen bs storage)

-- the byte that the first buffer by CPU number has committed at an address
abbrev pub first_snooped : List Waiting → ℕ → Option ℕ
first_snooped [] a = None
first_snooped (b ∷ bs) a = option_or (newest b.committed a) (first_snooped bs a)

-- what a memory shows, and what it holds for the CPU that it is lent to
pub record Shown : Type 0 where
  pub bytes : List ℕ
  pub held : List Piece

-- ---- the pieces of buffer j

abbrev pub committed_at : List Waiting → ℕ → List Piece
committed_at [] j = []
committed_at (b ∷ bs) zero = b.committed
committed_at (b ∷ bs) (suc j) = committed_at bs j

abbrev pub held_at : List Waiting → ℕ → List Piece
held_at [] j = []
held_at (b ∷ bs) zero = b.held
held_at (b ∷ bs) (suc j) = held_at bs j

-- ---- what holds at all times

abbrev pub AllInside : ℕ → List Piece → Type 0
AllInside size [] = ⊤
AllInside size (p ∷ ps) = (p.at + length p.bytes ≤ size) × AllInside size ps

-- no byte stands committed in two buffers, and all pieces lie inside the storage
pub record Kept (bs : List Waiting) (storage : List ℕ) : Type 0 where
  pub apart : (j k : ℕ) → j ≢ k → clash (committed_at bs j) (committed_at bs k) ≡ false
  pub inside : (j : ℕ) → AllInside (length storage) (committed_at bs j)
  pub held_inside : (j : ℕ) → AllInside (length storage) (held_at bs j)

-- no buffer from number n on has a committed entry
abbrev pub NoneFrom : ℕ → List Waiting → Type 0
NoneFrom n bs = (j : ℕ) → n ≤ j → committed_at bs j ≡ []

-- four entries of each buffer are not committed, so an event's stores find room
abbrev pub Roomy : List Waiting → Type 0
Roomy bs = (j : ℕ) → length (committed_at bs j) ≤ 4
