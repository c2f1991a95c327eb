-- A program of which some statements are written, and of which others follow.
use Rattle.std.specs.Prelude.{ℕ, ◌++◌, List, [], ◌∷◌, Option, Some, None}
use Rattle.asm_model.specs.declared.program.Constant.{Constant}
use Rattle.asm_model.specs.declared.statements.Operation.{Operation}
use Rattle.asm_model.specs.declared.statements.Operation.TheVariants.{Section, Bytes, Word, Address, External, Space, AlignWord, AlignDouble, Using, End, Instruction}
use Rattle.asm_model.specs.declared.program.Defined.{Defined}
use Rattle.asm_model.specs.declared.statements.Line.{Line}
use Rattle.asm_model.specs.declared.statements.Line.TheVariants.{Broken, Unknown, Said}
use Rattle.asm_model.specs.Section.{SectionBytes}
use Rattle.asm_model.specs.Places.{State, start, standing_at}
use Rattle.asm_model.specs.Program.{Program, name_or_zero, address_word, external_word}

-- the address words of an operation
abbrev pub words_of : State → State → Operation → List Constant
words_of end s (Address m n) = address_word end (standing_at s (Address m n)) m ∷ []
words_of end s (External m) = external_word end (standing_at s (External m)) m ∷ []
words_of end s Section = []
words_of end s (Bytes b) = []
words_of end s (Word n) = []
words_of end s (Space n) = []
words_of end s AlignWord = []
words_of end s AlignDouble = []
words_of end s (Using m r) = []
words_of end s (End m) = []
words_of end s (Instruction g) = []

-- ---- sections

-- a section that is open
abbrev pub opened : Option SectionBytes → List SectionBytes
opened None = []
opened (Some o) = o ∷ []

abbrev pub extended : Option SectionBytes → List ℕ → Option SectionBytes
extended None xs = None
extended (Some o) xs = Some (record { name = o.name; bytes = o.bytes ++ xs })

abbrev pub section_named : Option ℕ → Option SectionBytes
section_named name = Some (record { name = name_or_zero name; bytes = [] })

-- the section that is open with the bytes that follow, and the sections behind it
abbrev pub joined : Option SectionBytes → Program → List SectionBytes
joined None p = p.sections
joined (Some o) p = record { name = o.name; bytes = o.bytes ++ p.pending } ∷ p.sections

-- ---- the entry

abbrev pub end_operation : Operation → Option (Option ℕ)
end_operation (End m) = Some m
end_operation Section = None
end_operation (Bytes b) = None
end_operation (Word n) = None
end_operation (Address m n) = None
end_operation (External m) = None
end_operation (Space n) = None
end_operation AlignWord = None
end_operation AlignDouble = None
end_operation (Using m r) = None
end_operation (Instruction g) = None

-- what END names, where a line is one
abbrev pub end_name : Line → Option (Option ℕ)
end_name Broken = None
end_name Unknown = None
end_name (Said t) = end_operation t.operation

-- a state with names alone
abbrev pub of_names : List Defined → State
of_names names = record start { names = names }
