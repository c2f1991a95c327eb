-- What a disassembled instruction is in the assembler's language.
-- Source: choice of this project.
use Rattle.std.specs.Prelude.{◌≡◌, ℕ, List, Some, Ok}
use Rattle.esa_model.specs.declared.instructions.Decoded.{Decoded}
use Rattle.esa_table.specs.Encoding.{instruction_bytes}
use Rattle.asm_model.specs.Words.{name_of}
use Rattle.asm_text.specs.Lines.{item_at}
use Rattle.asm_text.specs.declared.lines.Item.TheVariants.{Instruction}
use Rattle.esa_asm.specs.AssembledSource.{assembled, deck_of_program}
use Rattle.text_law.specs.Between.{between, ignored, only_section}

-- its text, alone in a section of any name, assembles to its bytes, where the bits that it ignores
-- are zeros
abbrev pub IsStatement : Decoded → Type 0
IsStatement d = (name : List ℕ) (m : ℕ) → name_of name ≡ Some m → ignored d ≡ 0
    → assembled (between name d) ≡ Ok (deck_of_program (only_section m (instruction_bytes d)))

-- so it is of each instruction of a storage
abbrev pub ShowsStatements : List ℕ → Type 0
ShowsStatements storage = (at : ℕ) (d : Decoded) → item_at storage at ≡ Instruction d → IsStatement d
