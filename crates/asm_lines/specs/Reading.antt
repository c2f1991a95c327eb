-- The words of a line that are still to be read, and those that are read.
use Rattle.std.specs.Prelude.{ℕ, ◌+◌, List, [], ◌∷◌, length, Option, Some, None}
use Rattle.std.specs.List.{filter}
use Rattle.asm_model.specs.Line.{Head, is_word}
use Rattle.asm_words.specs.declared.cuts.Rest.{Rest}
use Rattle.asm_words.specs.declared.cuts.Rest.TheVariants.{Nothing, More}
use Rattle.asm_words.specs.Cuts.{rest_split}
use Rattle.asm_lines.specs.declared.heads.Head.{Head as HeadRead}

-- the words behind a blank: the parts between blanks that are not empty
abbrev pub words_behind : Rest → List (List ℕ)
words_behind r = filter is_word (rest_split 32 r)

-- the bytes behind a cut, with the one at which it was cut
abbrev pub rest_length : Rest → ℕ
rest_length Nothing = 0
rest_length (More t) = length t.now + 1

-- the first of some words; nothing where there is none
abbrev pub first_or_nothing : List (List ℕ) → List ℕ
first_or_nothing [] = []
first_or_nothing (w ∷ more) = w

-- a line's words as its definition has them
abbrev pub head_in : Option HeadRead → Option Head
head_in None = None
head_in (Some h) =
    Some (record {
      label = h.label.now;
      operation = h.operation.now;
      operands = h.operands.now;
    })
