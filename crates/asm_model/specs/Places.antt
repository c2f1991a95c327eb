-- Where each statement lies: its section and its offset there.
-- Source: choice of this project. An offset is the end of the statement before, raised to a multiple of 2 for
-- instructions, of 4 for words and of what an alignment says.
use Rattle.std.specs.Prelude.{ℕ, ◌+◌, ◌-◌, ◌*◌, ◌/◌, ◌==◌, Bool, true, false, if◌then◌else◌, List, [], ◌∷◌, ◌++◌, length, Option, Some, None}
use Rattle.std.specs.List.{list_any}
use Rattle.esa_model.specs.Table.{row_numbered}
use Rattle.esa_model.specs.declared.instructions.Form.{Form}
use Rattle.esa_model.specs.declared.instructions.Form.TheVariants.{Rr, Rx, Rs, Si, S, Ri, Rsi, Rre, Ss1, Ss2}
use Rattle.asm_model.specs.declared.statements.Operation.{Operation}
use Rattle.asm_model.specs.declared.statements.Operation.TheVariants.{Section, Bytes, Word, Address, External, Space, AlignWord, AlignDouble, Using, End, Instruction}
use Rattle.asm_model.specs.declared.statements.Line.{Line}
use Rattle.asm_model.specs.declared.statements.Line.TheVariants.{Broken, Unknown, Said}
use Rattle.asm_model.specs.declared.statements.Source.{Source}
use Rattle.asm_model.specs.declared.program.Defined.{Defined}
use Rattle.asm_model.specs.declared.program.Base.{Base}

-- ---- bytes of an operation

abbrev pub form_length : Form → ℕ
form_length Rr = 2
form_length Rx = 4
form_length Rs = 4
form_length Si = 4
form_length S = 4
form_length Ri = 4
form_length Rsi = 4
form_length Rre = 4
form_length Ss1 = 6
form_length Ss2 = 6

abbrev pub alignment : Operation → ℕ
alignment Section = 1
alignment (Bytes b) = 1
alignment (Word n) = 4
alignment (Address m n) = 4
alignment (External m) = 4
alignment (Space n) = 1
alignment AlignWord = 4
alignment AlignDouble = 8
alignment (Using m r) = 1
alignment (End m) = 1
alignment (Instruction g) = 2

abbrev pub size : Operation → ℕ
size Section = 0
size (Bytes b) = length b.items
size (Word n) = 4
size (Address m n) = 4
size (External m) = 4
size (Space n) = n
size AlignWord = 0
size AlignDouble = 0
size (Using m r) = 0
size (End m) = 0
size (Instruction g) = form_length (row_numbered g.row).form

-- the multiple of a number at or above an offset
abbrev pub raised : ℕ → ℕ → ℕ
raised a o = (o + a - 1) / a * a

-- ---- what stands before a line

-- whether END came; how many sections have begun, the offset in the last and the bytes of those before it; the
-- base; the names of earlier lines, and the different external names
pub record State : Type 0 where
  pub ended : Bool
  pub section : ℕ
  pub offset : ℕ
  pub total : ℕ
  pub base : Option Base
  pub names : List Defined
  pub externals : List ℕ

abbrev pub start : State
start = record {
  ended = false;
  section = 0;
  offset = 0;
  total = 0;
  base = None;
  names = [];
  externals = [];
}

abbrev pub is_in : ℕ → List ℕ → Bool
is_in m ms = list_any (λ x. x == m) ms

abbrev pub with_new : ℕ → List ℕ → List ℕ
with_new m ms = if is_in m ms then ms else ms ++ m ∷ []

-- what an operation does beside its bytes; a section begins at offset 0
abbrev pub done : State → Operation → State
done s Section =
    record s { section = s.section + 1; offset = 0; total = s.total + s.offset }
done s (Using m r) = record s { base = Some (record { name = m; register = r }) }
done s (End m) = record s { ended = true }
done s (External m) = record s { externals = with_new m s.externals }
done s (Bytes b) = s
done s (Word n) = s
done s (Address m n) = s
done s (Space n) = s
done s AlignWord = s
done s AlignDouble = s
done s (Instruction g) = s

-- where the operation lies: at the raised offset
abbrev pub standing_at : State → Operation → State
standing_at s o = let t = done s o in record t { offset = raised (alignment o) t.offset }

abbrev pub with_name : Option ℕ → State → State
with_name None s = s
with_name (Some m) s =
    record s { names = s.names ++ record { name = m; section = s.section; offset = s.offset } ∷ [] }

abbrev pub past : ℕ → State → State
past n s = record s { offset = s.offset + n }

abbrev pub after : State → Line → State
after s Broken = s
after s Unknown = s
after s (Said t) = past (size t.operation) (with_name t.name (standing_at s t.operation))

-- ---- all lines

-- a line with what stands before it
pub record Standing : Type 0 where
  pub number : ℕ
  pub line : Line
  pub before : State

abbrev pub standings : State → List Source → List Standing
standings s [] = []
standings s (x ∷ xs) =
    record { number = x.number; line = x.line; before = s } ∷ standings (after s x.line) xs

-- what stands after all lines
abbrev pub last : State → List Source → State
last s [] = s
last s (x ∷ xs) = last (after s x.line) xs
