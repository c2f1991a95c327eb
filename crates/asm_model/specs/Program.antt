-- The bytes of the sections of an accepted source, the address words in them, and the entry.
-- Source: choice of this project. Bytes without a statement are zero.
use Rattle.std.specs.Prelude.{ℕ, ◌+◌, ◌-◌, ◌==◌, true, false, if◌then◌else◌, List, [], ◌∷◌, ◌++◌, replicate, Option, Some, None}
use Rattle.byteorder.specs.Endian.{big_bytes}
use Rattle.esa_model.specs.declared.instructions.Decoded.{Decoded}
use Rattle.esa_table.specs.Encoding.{instruction_bytes}
use Rattle.asm_model.specs.declared.operands.Given.{Given}
use Rattle.asm_model.specs.declared.statements.Operation.{Operation}
use Rattle.asm_model.specs.declared.statements.Operation.TheVariants.{Section, Bytes, Word, Address, External, Space, AlignWord, AlignDouble, Using, End, Instruction}
use Rattle.asm_model.specs.declared.statements.Line.{Line}
use Rattle.asm_model.specs.declared.statements.Line.TheVariants.{Broken, Unknown, Said}
use Rattle.asm_model.specs.declared.statements.Source.{Source}
use Rattle.asm_model.specs.declared.program.Defined.{Defined}
use Rattle.asm_model.specs.declared.program.Constant.{Constant}
use Rattle.asm_model.specs.Section.{SectionBytes}
use Rattle.asm_model.specs.Places.{State, Standing, start, standings, standing_at, last}
use Rattle.asm_model.specs.Refused.{place_of, resolved}

-- ---- bytes of an operation

abbrev pub fields_given : Given → Decoded
fields_given g = record {
  row = g.row;
  r1 = g.r1;
  r2 = g.r2;
  b1 = g.b1;
  d1 = g.d1;
  b2 = g.b2;
  d2 = g.d2;
  imm = g.imm;
  len = g.len;
}

-- of one that stands at s; an address word has the distance in its section, and an external one zeros
abbrev pub operation_bytes : List Defined → State → Operation → List ℕ
operation_bytes names s (Bytes b) = b.items
operation_bytes names s (Word n) = big_bytes 4 n
operation_bytes names s (Address m n) = big_bytes 4 ((place_of names m).offset + n)
operation_bytes names s (External m) = replicate 4 0
operation_bytes names s (Space n) = replicate n 0
operation_bytes names s (Instruction g) = instruction_bytes (fields_given (resolved names s g))
operation_bytes names s Section = []
operation_bytes names s AlignWord = []
operation_bytes names s AlignDouble = []
operation_bytes names s (Using m r) = []
operation_bytes names s (End m) = []

-- zeros up to the raised offset, and the bytes there
abbrev pub placed_bytes : State → State → Operation → List ℕ
placed_bytes end s o =
    let t = standing_at s o in
    replicate (t.offset - s.offset) 0 ++ operation_bytes end.names t o

-- ---- sections and address words

-- the bytes that stand before the first section of the lines, the sections of the lines, and their address words
pub record Program : Type 0 where
  pub pending : List ℕ
  pub sections : List SectionBytes
  pub constants : List Constant

abbrev pub nothing : Program
nothing = record { pending = []; sections = []; constants = [] }

abbrev pub name_or_zero : Option ℕ → ℕ
name_or_zero None = 0
name_or_zero (Some m) = m

-- the place of a name in a list, from 0
abbrev pub place_in : ℕ → List ℕ → ℕ
place_in m [] = 0
place_in m (x ∷ xs) = if x == m then 0 else place_in m xs + 1

-- a section's ESDID is its number from 1, and external names follow in the order of their first use
abbrev pub address_word : State → State → ℕ → Constant
address_word end s m = record {
  section = s.section;
  offset = s.offset;
  target = (place_of end.names m).section;
  external = false;
}

abbrev pub external_word : State → State → ℕ → Constant
external_word end s m = record {
  section = s.section;
  offset = s.offset;
  target = end.section + 1 + place_in m end.externals;
  external = true;
}

abbrev pub with_bytes : State → State → Operation → Program → Program
with_bytes end s o p = record p { pending = placed_bytes end s o ++ p.pending }

abbrev pub with_constant : State → State → Constant → Operation → Program → Program
with_constant end s c o p =
    record p { pending = placed_bytes end s o ++ p.pending; constants = c ∷ p.constants }

-- a statement before others: a section takes the bytes that stand before the next one
abbrev pub before_others : State → State → Option ℕ → Operation → Program → Program
before_others end s name Section p =
    record p {
      pending = [];
      sections = record { name = name_or_zero name; bytes = p.pending } ∷ p.sections;
    }
before_others end s name (Address m n) p =
    with_constant end s (address_word end (standing_at s (Address m n)) m) (Address m n) p
before_others end s name (External m) p =
    with_constant end s (external_word end (standing_at s (External m)) m) (External m) p
before_others end s name (Bytes b) p = with_bytes end s (Bytes b) p
before_others end s name (Word n) p = with_bytes end s (Word n) p
before_others end s name (Space n) p = with_bytes end s (Space n) p
before_others end s name AlignWord p = with_bytes end s AlignWord p
before_others end s name AlignDouble p = with_bytes end s AlignDouble p
before_others end s name (Using m r) p = p
before_others end s name (End m) p = p
before_others end s name (Instruction g) p = with_bytes end s (Instruction g) p

abbrev pub line_before : State → State → Line → Program → Program
line_before end s Broken p = p
line_before end s Unknown p = p
line_before end s (Said t) p = before_others end s t.name t.operation p

-- of lines before the end
abbrev pub program_of : State → List Standing → Program
program_of end [] = nothing
program_of end (s ∷ ss) = line_before end s.before s.line (program_of end ss)

-- ---- the entry, where END names one

abbrev pub entry_named : State → Option ℕ → Option Defined
entry_named end None = None
entry_named end (Some m) = Some (place_of end.names m)

abbrev pub entry_operation : State → Operation → Option Defined → Option Defined
entry_operation end (End m) more = entry_named end m
entry_operation end Section more = more
entry_operation end (Bytes b) more = more
entry_operation end (Word n) more = more
entry_operation end (Address m n) more = more
entry_operation end (External m) more = more
entry_operation end (Space n) more = more
entry_operation end AlignWord more = more
entry_operation end AlignDouble more = more
entry_operation end (Using m r) more = more
entry_operation end (Instruction g) more = more

abbrev pub entry_line : State → Line → Option Defined → Option Defined
entry_line end Broken more = more
entry_line end Unknown more = more
entry_line end (Said t) more = entry_operation end t.operation more

abbrev pub entry_in : State → List Standing → Option Defined
entry_in end [] = None
entry_in end (s ∷ ss) = entry_line end s.line (entry_in end ss)

-- ---- of a whole source

-- the sections with their bytes, the different external names, the address words and the entry
pub record Assembly : Type 0 where
  pub sections : List SectionBytes
  pub externals : List ℕ
  pub constants : List Constant
  pub entry : Option Defined

unfoldable pub assembly : List Source → Assembly
assembly xs =
    let end = last start xs in
    let ss = standings start xs in
    let p = program_of end ss in
    record {
      sections = p.sections;
      externals = end.externals;
      constants = p.constants;
      entry = entry_in end ss;
    }
