-- The statement of an instruction is assembled to its bytes.
use Rattle.std.proofs.Common.{◌≡◌, ℕ, List, Some, Ok, refl, sym}
use Rattle.esa_model.specs.declared.instructions.Decoded.{Decoded}
use Rattle.esa_table.specs.Encoding.{IsInstruction, instruction_bytes}
use Rattle.asm_model.specs.Line.{sources}
use Rattle.asm_model.specs.Words.{name_of}
use Rattle.text_law.specs.Between.{between, ignored, only_section}
use Rattle.text_law.proofs.Sources.{text_assembles}
use Rattle.esa_asm.specs.AssembledSource.{assembled, deck_of_program}
use Rattle.esa_asm.proofs.DeckOfSource.{deck_is}

pub text_is_assembled : (name : List ℕ) (m : ℕ) (d : Decoded) → name_of name ≡ Some m → IsInstruction d → ignored d ≡ 0 → assembled (between name d) ≡ Ok (deck_of_program (only_section m (instruction_bytes d)))
text_is_assembled name m d n i g =
    let law = text_assembles name m d n i g in
    let source = between name d in
    let program = only_section m (instruction_bytes d) in
    deck_is source (sources source) program (deck_of_program program) refl law.0 (sym law.1) refl
