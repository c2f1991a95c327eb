-- The words of a text, one after another. Source: choice of this project.
use Rattle.std.specs.Prelude.{ℕ, ◌<◌, ◌≡◌, List, ◌∷◌, length}
use Rattle.run_model.specs.Schedule.{words}

-- the first word of a text, and the rest of the text behind it
pub record IsNextWord (text word after : List ℕ) : Type 0 where
  pub words_are : words text ≡ word ∷ words after
  pub shorter : length after < length text
