-- A run that is resumed: the attempts of a core that were begun before it.
-- Source: choice of this project.
use Rattle.std.specs.Prelude.{ℕ, ◌<◌, ◌≡◌, ◌==◌, if◌then◌else◌}
use Rattle.silicon.specs.Chip.{Chip}

-- the attempts begun of one core are so many
pub record Resumes (core n : ℕ) (old new : Chip) : Type 0 where
  pub lines : new.lines ≡ old.lines
  pub begun : (c : ℕ) → new.begun c ≡ (if c == core then n else old.begun c)
  pub word : (c w : ℕ) → w < 40 → new.word c w ≡ old.word c w
