-- What a line is, without its place.
use Rattle.std.specs.Prelude.{Bool, true, false}
use Rattle.asm_model.specs.declared.statements.Operation.{Operation}
use Rattle.asm_model.specs.declared.statements.Operation.TheVariants.{Section, Bytes, Word, Address, External, Space, AlignWord, AlignDouble, Using, End, Instruction}
use Rattle.asm_model.specs.declared.statements.Line.{Line}
use Rattle.asm_model.specs.declared.statements.Line.TheVariants.{Broken, Unknown, Said}

abbrev pub is_end : Operation → Bool
is_end (End m) = true
is_end Section = false
is_end (Bytes b) = false
is_end (Word n) = false
is_end (Address m n) = false
is_end (External m) = false
is_end (Space n) = false
is_end AlignWord = false
is_end AlignDouble = false
is_end (Using m r) = false
is_end (Instruction g) = false

-- a line is END
abbrev pub ends : Line → Bool
ends Broken = false
ends Unknown = false
ends (Said t) = is_end t.operation

abbrev pub is_section : Operation → Bool
is_section Section = true
is_section (Bytes b) = false
is_section (Word n) = false
is_section (Address m n) = false
is_section (External m) = false
is_section (Space n) = false
is_section AlignWord = false
is_section AlignDouble = false
is_section (Using m r) = false
is_section (End m) = false
is_section (Instruction g) = false

-- a line is CSECT
abbrev pub begins : Line → Bool
begins Broken = false
begins Unknown = false
begins (Said t) = is_section t.operation

-- a line is a statement other than CSECT and END
abbrev pub is_inner : Operation → Bool
is_inner Section = false
is_inner (End m) = false
is_inner (Bytes b) = true
is_inner (Word n) = true
is_inner (Address m n) = true
is_inner (External m) = true
is_inner (Space n) = true
is_inner AlignWord = true
is_inner AlignDouble = true
is_inner (Using m r) = true
is_inner (Instruction g) = true
