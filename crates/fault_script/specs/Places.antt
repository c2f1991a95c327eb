-- One number for a core, a word of it and a block of attempts. Source: choice of this project.
use Rattle.std.specs.Prelude.{ℕ, ◌+◌, ◌*◌, ◌<◌, ◌≡◌, ◌==◌}
use Rattle.run_model.specs.Premise.{strikes_word}
use Rattle.run_model.specs.declared.faults.Strike.{Strike}

abbrev pub place : ℕ → ℕ → ℕ → ℕ
place c w k = (k * 256 + w) * 256 + c

-- the strike is on the word and block of this place, and on no other
pub record IsPlaceOf (s : Strike) (p : ℕ) : Type 0 where
  pub core : ℕ
  pub word : ℕ
  pub block : ℕ
  pub core_small : core < 16
  pub word_small : word < 40
  pub is : p ≡ place core word block
  pub same : (c w k : ℕ) → c < 16 → w < 40 → strikes_word c w k s ≡ (p == place c w k)
