-- What a core stores: the checkpoint words of registers, of which some positions are wrong.
-- Source: choice of this project.
use Rattle.std.specs.Prelude.{ℕ, ◌<◌, ◌≤◌, ◌^◌, ◌≡◌, ◌≢◌, All, None, map, bit_xor, if◌then◌else◌}
use Rattle.std.specs.List.{range_with_len}
use Rattle.esa_model.specs.declared.machine.Registers.{Registers}
use Rattle.run_model.specs.Checkpoint.{word_of, width, registers_of}
use Rattle.run_model.specs.Code.{ones}
use Rattle.run_model.specs.Reading.{code, mended}
use Rattle.run_model.specs.Strikes.{flips}
use Rattle.silicon.specs.Chip.{Chip}
use Rattle.core_states.specs.Words.{values, is_due}

-- core c stores registers r; in word w exactly the positions of the number e w are wrong
pub record StoredAs (z : Chip) (c : ℕ) (r : Registers) (e : ℕ → ℕ) : Type 0 where
  pub word : (w : ℕ) → w < 40 → z.word c w ≡ bit_xor (code w (word_of r w)) (e w)
  pub places : (w : ℕ) → w < 40 → e w < 2 ^ width w

-- at most two in each word
abbrev pub FewWrong : (ℕ → ℕ) → Type 0
FewWrong e = (w : ℕ) → w < 40 → ones (width w) (e w) ≤ 2

-- each clock word is one of 64 bits
abbrev pub ClocksFit : Registers → Type 0
ClocksFit r = All (λ d. d < 2 ^ 64) r.clocks

-- ---- what a call on core c leaves

-- the words of every other core
abbrev pub KeepsOthers : ℕ → Chip → Chip → Type 0
KeepsOthers c z z2 = (k w : ℕ) → k ≢ c → w < 40 → z2.word k w ≡ z.word k w

-- the wrong positions once the next attempt has begun, from those before it: where they were to be
-- read, a word that was corrected had none, and then the strikes landed
abbrev pub after_strikes : Chip → ℕ → (ℕ → ℕ) → ℕ → ℕ
after_strikes z c e w =
    bit_xor (if is_due z c then mended e None w else e w) (flips z.lines c (z.begun c) w)
