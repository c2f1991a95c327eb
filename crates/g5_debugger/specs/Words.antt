-- Words of answers. Source: choice of this project.
use Rattle.std.specs.Prelude.{ℕ, List, ◌++◌, codes}
use Rattle.run_model.specs.Numbers.{hex_text}

-- a blank and a word
abbrev pub after_blank : ℕ → List ℕ
after_blank word = codes " " ++ hex_text 8 word
