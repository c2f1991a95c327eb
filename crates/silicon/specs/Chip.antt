-- The silicon as contracts see it: the script, the attempts begun of each core, and its stored
-- words; and what its calls do. Source: choice of this project.
use Rattle.std.specs.Prelude.{ℕ, ◌+◌, ◌-◌, ◌<◌, ◌≡◌, ◌==◌, ◌&&◌, not, if◌then◌else◌, List, [], ◌∷◌, Option, Some, None, bit_xor}
use Rattle.result_packet.specs.Bits.{flipped}
use Rattle.result_packet.specs.declared.latches.FetchLatch.{FetchLatch}
use Rattle.result_packet.specs.declared.latches.StoreLatch.{StoreLatch}
use Rattle.run_model.specs.Strikes.{mask_byte, fetch_bit, store_bit, flips}
use Rattle.run_model.specs.declared.faults.Strike.{Strike}
use Rattle.run_model.specs.declared.faults.Unit.{Unit}

pub record Chip : Type 0 where
  pub lines : List Strike
  pub begun : ℕ → ℕ
  pub word : ℕ → ℕ → ℕ

-- ---- what is changed

-- no script, no attempt begun, zero in every word
pub record Fresh (z : Chip) : Type 0 where
  pub lines : z.lines ≡ []
  pub begun : (c : ℕ) → c < 16 → z.begun c ≡ 0
  pub word : (c w : ℕ) → c < 16 → w < 40 → z.word c w ≡ 0

-- the script alone
pub record Arms (script : List Strike) (old new : Chip) : Type 0 where
  pub lines : new.lines ≡ script
  pub begun : (c : ℕ) → new.begun c ≡ old.begun c
  pub word : (c w : ℕ) → w < 40 → new.word c w ≡ old.word c w

-- one attempt more is begun on a core, and its strikes on words land
pub record Begins (core : ℕ) (old new : Chip) : Type 0 where
  pub lines : new.lines ≡ old.lines
  pub begun : (c : ℕ) → new.begun c ≡ (if c == core then old.begun c + 1 else old.begun c)
  pub word : (c w : ℕ) → w < 40 → new.word c w
      ≡ (if c == core then bit_xor (old.word c w) (flips old.lines c (old.begun c) w)
      else old.word c w)

-- one word
pub record Puts (core place stored : ℕ) (old new : Chip) : Type 0 where
  pub lines : new.lines ≡ old.lines
  pub begun : (c : ℕ) → new.begun c ≡ old.begun c
  pub word : (c w : ℕ) → w < 40
      → new.word c w ≡ (if c == core && w == place then stored else old.word c w)

-- nothing
pub record Stays (old new : Chip) : Type 0 where
  pub lines : new.lines ≡ old.lines
  pub begun : (c : ℕ) → new.begun c ≡ old.begun c
  pub word : (c w : ℕ) → w < 40 → new.word c w ≡ old.word c w

-- ---- what is passed

-- the last attempt of a core that was begun
abbrev pub last : Chip → ℕ → ℕ
last z c = z.begun c - 1

-- bytes under a mask, whose byte of number k is the first one's
unfoldable pub masked : (ℕ → ℕ) → ℕ → List ℕ → List ℕ
masked f k [] = []
masked f k (b ∷ bs) = bit_xor b (f k) ∷ masked f (k + 1) bs

-- the bytes of a packet of this unit
abbrev pub passed_packet : Chip → ℕ → Unit → List ℕ → List ℕ
passed_packet z c u bytes = masked (mask_byte z.lines c u (last z c)) 0 bytes

-- a latch with one bit changed: the last is its parity
abbrev pub fetch_changed : FetchLatch → ℕ → FetchLatch
fetch_changed l bit =
    if bit == 64 then record l { odd = not l.odd } else record l { bytes = flipped bit l.bytes }

abbrev pub store_changed : StoreLatch → ℕ → StoreLatch
store_changed l bit =
    if bit == 4096 then record l { odd = not l.odd } else record l { packet = flipped bit l.packet }

abbrev pub hit_fetch : FetchLatch → Option ℕ → FetchLatch
hit_fetch l None = l
hit_fetch l (Some bit) = fetch_changed l bit

abbrev pub hit_store : StoreLatch → Option ℕ → StoreLatch
hit_store l None = l
hit_store l (Some bit) = store_changed l bit

abbrev pub passed_fetch : Chip → ℕ → FetchLatch → FetchLatch
passed_fetch z c l = hit_fetch l (fetch_bit z.lines c (last z c))

abbrev pub passed_store : Chip → ℕ → StoreLatch → StoreLatch
passed_store z c l = hit_store l (store_bit z.lines c (last z c))
