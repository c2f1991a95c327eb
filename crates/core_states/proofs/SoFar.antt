-- The words below n of a core were read or written.
use Rattle.std.proofs.Common.{◌≡◌, ℕ, ◌-◌, ◌<◌, ◌≤◌, Bool, List, length, slice_index, Some}
use Rattle.std.specs.Prelude.{◌==◌, ◌&&◌, not, nat_lt, if◌then◌else◌}
use Rattle.esa_model.specs.declared.machine.Registers.{Registers}
use Rattle.run_model.specs.declared.faults.Note.{Note}
use Rattle.run_model.specs.Checkpoint.{word_of}
use Rattle.run_model.specs.Reading.{reading, code}
use Rattle.silicon.specs.Chip.{Chip}
use Rattle.core_states.specs.Words.{marks, values, read_core, Rewrites}

pub record Filling (n core : ℕ) (r : Registers) (old new : Chip) : Type 0 where
  pub lines : new.lines ≡ old.lines
  pub begun : (c : ℕ) → new.begun c ≡ old.begun c
  pub word : (c w : ℕ) → w < 40 → new.word c w
      ≡ (if c == core && nat_lt w n then code w (word_of r w) else old.word c w)

pub record Changing (n core : ℕ) (before after : Registers) (old new : Chip) : Type 0 where
  pub lines : new.lines ≡ old.lines
  pub begun : (c : ℕ) → new.begun c ≡ old.begun c
  pub word : (c w : ℕ) → w < 40 → new.word c w
      ≡ (if c == core && (nat_lt w n && not (word_of after w == word_of before w))
      then code w (word_of after w) else old.word c w)

pub record ReadSoFar (back : Bool) (core n : ℕ) (notes : List Note) (words : List ℕ) (old new : Chip) : Type 0 where
  pub read : reading (marks old core) notes n (40 - n) ≡ read_core old core
  pub rewrites : Rewrites back core (Some n) old new
  pub words_are : (k : ℕ) → k < n → slice_index words k ≡ values old core k
  pub room : length notes ≤ n
