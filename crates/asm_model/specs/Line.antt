-- What a line of a source says.
-- Source: choice of this project. A line is ASCII and has at most 120 bytes. It is a name or a blank in column 1,
-- then blanks, an operation, blanks and operands without blanks; what follows a further blank is a remark. An
-- operation is looked up before its operands have a form, so one that is unknown never breaks its line.
use Rattle.std.specs.Prelude.{ℕ, ◌+◌, ◌==◌, ◌&&◌, ◌||◌, Bool, true, false, not, nat_lt, nat_le, if◌then◌else◌, List, [], ◌∷◌, length, slice_index, Option, Some, None}
use Rattle.std.specs.List.{list_all, filter}
use Rattle.run_model.specs.Script.{fields, lines}
use Rattle.asm_model.specs.declared.statements.Mnemonic.{Mnemonic}
use Rattle.asm_model.specs.declared.statements.Operation.{Operation}
use Rattle.asm_model.specs.declared.statements.Line.{Line}
use Rattle.asm_model.specs.declared.statements.Line.TheVariants.{Broken, Unknown, Said}
use Rattle.asm_model.specs.declared.statements.Source.{Source}
use Rattle.asm_model.specs.Words.{name_of}
use Rattle.asm_model.specs.Statement.{mnemonic_of, operation}

-- the words of a line; a line without a name has an empty label
pub record Head : Type 0 where
  pub label : List ℕ
  pub operation : List ℕ
  pub operands : List ℕ

abbrev pub is_word : List ℕ → Bool
is_word w = not (length w == 0)

abbrev pub head_words : List ℕ → List (List ℕ) → Option Head
head_words label [] = None
head_words label (o ∷ []) = Some (record { label = label; operation = o; operands = [] })
head_words label (o ∷ text ∷ remark) =
    Some (record { label = label; operation = o; operands = text })

-- the fields between blanks: the first is the label, and those of the others that are not empty are words
abbrev pub head_by : List (List ℕ) → Option Head
head_by [] = None
head_by (label ∷ more) = head_words label (filter is_word more)

abbrev pub said : Option ℕ → Option Operation → Line
said name None = Broken
said name (Some o) = Said (record { name = name; operation = o })

abbrev pub by_mnemonic : Option Mnemonic → Option ℕ → List ℕ → Line
by_mnemonic None name text = Unknown
by_mnemonic (Some m) name text = said name (operation m name text)

-- a name, where the label is one
abbrev pub by_name : Option ℕ → Head → Line
by_name None h = Broken
by_name (Some m) h = by_mnemonic (mnemonic_of h.operation) (Some m) h.operands

abbrev pub by_head : Option Head → Line
by_head None = Broken
by_head (Some h) =
    if length h.label == 0 then by_mnemonic (mnemonic_of h.operation) None h.operands
    else by_name (name_of h.label) h

abbrev pub is_ascii : ℕ → Bool
is_ascii b = nat_lt b 128

unfoldable pub is_plain : List ℕ → Bool
is_plain text = nat_le (length text) 120 && list_all is_ascii text

unfoldable pub line_of : List ℕ → Line
line_of text = if is_plain text then by_head (head_by (fields text)) else Broken

-- ---- the lines of a source

-- an empty line, and a comment
unfoldable pub is_passed : List ℕ → Bool
is_passed text = (length text == 0) || ((slice_index text 0 == 42) && is_plain text)

abbrev pub source_step : Bool → ℕ → List ℕ → List Source → List Source
source_step true n text more = more
source_step false n text more = record { number = n; line = line_of text } ∷ more

abbrev pub sources_from : ℕ → List (List ℕ) → List Source
sources_from n [] = []
sources_from n (l ∷ ls) = source_step (is_passed l) n l (sources_from (n + 1) ls)

unfoldable pub sources : List ℕ → List Source
sources text = sources_from 1 (lines text)
