-- One checkpoint word is read: how it is noted and what is stored after it.
-- Source: choice of this project.
use Rattle.std.specs.Prelude.{◌≡◌, ℕ, ◌<◌, Bool, List, [], ◌∷◌, ◌++◌, ◌==◌, ◌&&◌, if◌then◌else◌}
use Rattle.run_model.specs.declared.faults.Note.{Note}
use Rattle.run_model.specs.declared.readings.Mark.{Mark}
use Rattle.run_model.specs.declared.readings.Mark.TheVariants.{Plain, Fixed, Bad}
use Rattle.silicon.specs.Chip.{Chip}
use Rattle.core_states.specs.Words.{rewritten}

-- the notes after word w was read
abbrev pub noted : List Note → ℕ → Mark → List Note
noted notes w Plain = notes
noted notes w (Fixed bit) = notes ++ record { word = w; bit = bit } ∷ []
noted notes w Bad = notes

-- one word was read, and written back if it was corrected and that is asked
pub record Fixes (back : Bool) (core place : ℕ) (old new : Chip) : Type 0 where
  pub lines : new.lines ≡ old.lines
  pub begun : (c : ℕ) → new.begun c ≡ old.begun c
  pub word : (c w : ℕ) → w < 40 → new.word c w
      ≡ (if c == core && w == place then rewritten back w (old.word c w) else old.word c w)
