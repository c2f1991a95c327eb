-- What reading and writing the checkpoint words of a core does to the silicon.
-- Source: choice of this project (the words of a checkpoint are read in their order, and a corrected
-- one is written back; before each 16th attempt they are read in any case).
use Rattle.std.specs.Prelude.{◌≡◌, ℕ, ◌+◌, ◌%◌, ◌<◌, Bool, true, [], Option, None, ◌==◌, ◌&&◌, not, if◌then◌else◌, bit_xor}
use Rattle.esa_model.specs.declared.machine.Registers.{Registers}
use Rattle.run_model.specs.declared.readings.Mark.{Mark}
use Rattle.run_model.specs.Checkpoint.{word_of}
use Rattle.run_model.specs.Reading.{Reading, reading, mark_of, value, code, is_fixed, is_before}
use Rattle.run_model.specs.Strikes.{flips}
use Rattle.silicon.specs.Chip.{Chip}

-- ---- how the words of a core read

unfoldable pub marks : Chip → ℕ → ℕ → Mark
marks z c w = mark_of w (z.word c w)

unfoldable pub values : Chip → ℕ → ℕ → ℕ
values z c w = value w (z.word c w)

-- the words of a core in their order, up to the first that is lost
abbrev pub read_core : Chip → ℕ → Reading
read_core z c = reading (marks z c) [] 0 40

-- whether the next attempt of a core is the first of a block of 16
abbrev pub is_due : Chip → ℕ → Bool
is_due z c = z.begun c % 16 == 0

abbrev pub nothing_read : Reading
nothing_read = record { notes = []; lost = None }

-- what is read before an attempt
unfoldable pub scrub_reading : Chip → ℕ → Reading
scrub_reading z c = if is_due z c then read_core z c else nothing_read

-- ---- what is written

-- a word after it was read, written back if it was corrected and that is asked
abbrev pub rewritten : Bool → ℕ → ℕ → ℕ
rewritten back w stored =
    if is_fixed (mark_of w stored) && back then code w (value w stored) else stored

-- the words of a core up to the lost one were read
pub record Rewrites (back : Bool) (core : ℕ) (lost : Option ℕ) (old new : Chip) : Type 0 where
  pub lines : new.lines ≡ old.lines
  pub begun : (c : ℕ) → new.begun c ≡ old.begun c
  pub word : (c w : ℕ) → w < 40 → new.word c w
      ≡ (if c == core && is_before w lost then rewritten back w (old.word c w) else old.word c w)

-- all words of a core are those of registers
pub record Fills (core : ℕ) (r : Registers) (old new : Chip) : Type 0 where
  pub lines : new.lines ≡ old.lines
  pub begun : (c : ℕ) → new.begun c ≡ old.begun c
  pub word : (c w : ℕ) → w < 40
      → new.word c w ≡ (if c == core then code w (word_of r w) else old.word c w)

-- the words whose value changed are those of the registers after it
pub record Changes (core : ℕ) (before after : Registers) (old new : Chip) : Type 0 where
  pub lines : new.lines ≡ old.lines
  pub begun : (c : ℕ) → new.begun c ≡ old.begun c
  pub word : (c w : ℕ) → w < 40 → new.word c w
      ≡ (if c == core && not (word_of after w == word_of before w) then code w (word_of after w)
      else old.word c w)

-- ---- what an attempt does

-- the words of a core were read where that is due, up to the lost one
pub record Scrubs (core : ℕ) (lost : Option ℕ) (old new : Chip) : Type 0 where
  pub lines : new.lines ≡ old.lines
  pub begun : (c : ℕ) → new.begun c ≡ old.begun c
  pub word : (c w : ℕ) → w < 40 → new.word c w
      ≡ (if c == core && (is_due old core && is_before w lost) then rewritten true w (old.word c w)
      else old.word c w)

-- an attempt begins, after the words were read where that is due: its strikes on words land
pub record Attempts (core : ℕ) (old new : Chip) : Type 0 where
  pub lines : new.lines ≡ old.lines
  pub begun : (c : ℕ) → new.begun c ≡ (if c == core then old.begun c + 1 else old.begun c)
  pub word : (c w : ℕ) → w < 40 → new.word c w
      ≡ (if c == core
      then bit_xor (if is_due old core then rewritten true w (old.word c w) else old.word c w)
      (flips old.lines c (old.begun c) w)
      else old.word c w)
