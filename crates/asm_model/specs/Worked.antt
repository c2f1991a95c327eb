-- Worked values.
use Rattle.std.specs.Prelude.{◌≡◌, ℕ, List, [], ◌∷◌, Some, None, true, codes, refl}
use Rattle.run_model.specs.Numbers.{is_decimal}
use Rattle.run_model.specs.Script.{fields, lines}
use Rattle.esa_model.specs.Table.{row_numbered}
use Rattle.asm_model.specs.declared.statements.Line.TheVariants.{Unknown, Broken, Said}
use Rattle.asm_model.specs.declared.statements.Operation.TheVariants.{Instruction}
use Rattle.asm_model.specs.declared.refusal.AsmRefusal.TheVariants as refusal
use Rattle.asm_model.specs.Words.{is_name, name_of, number_of}
use Rattle.asm_model.specs.Pieces.{simple_operand, closed, operand_of, operands}
use Rattle.asm_model.specs.Slots.{slots, filled, instruction, nothing_given}
use Rattle.asm_model.specs.Statement.{row_named, mnemonic_of, constant, space, operation}
use Rattle.asm_model.specs.Line.{is_plain, line_of, is_passed, sources}
use Rattle.asm_model.specs.Refused.{place_of, resolved, in_range, refusal_of}
use Rattle.asm_model.specs.Program.{assembly}

-- a base and an index of 0
pub load_address :
    line_of (codes " LA 1,28(1)")
    ≡ Said (record {
      name = None;
      operation = Instruction (record (nothing_given 27) { r1 = 1; d2 = 28; b2 = 1 });
    })
unfolding line_of is_plain fields mnemonic_of row_named operation is_name name_of number_of operand_of operands simple_operand closed is_decimal slots filled instruction row_numbered
load_address = refl

-- an operation in small letters is unknown, whatever its operands
pub small_letters : line_of (codes " la ,,") ≡ Unknown
unfolding line_of is_plain fields mnemonic_of row_named
small_letters = refl

-- a section has no operands
pub section_with_a_word : line_of (codes "A CSECT remark") ≡ Broken
unfolding line_of is_plain fields mnemonic_of row_named operation is_name name_of
section_with_a_word = refl

-- a program that adds, and two characters
abbrev pub adding : List ℕ
adding =
    codes "MAIN CSECT\n LA 1,2048\n AR 1,1\n AR 1,1\n AR 1,1\n AR 1,1\n AR 1,1\n LA 1,28(1)\n LA 2,2\n DIAG 1,2,256\n BCR 0,0\n DC X'C8C9'\n END\n"

pub accepted : refusal_of (sources adding) ≡ None
unfolding line_of is_plain fields mnemonic_of row_named operation constant space is_name name_of number_of operand_of operands simple_operand closed is_decimal slots filled instruction row_numbered lines is_passed sources place_of resolved in_range refusal_of
accepted = refl

pub adding_bytes :
    (assembly (sources adding)).sections
    ≡ record {
      name = 0xD4C1C9D540404040;
      bytes =
          0x41 ∷ 0x10 ∷ 0x08 ∷ 0 ∷ 0x1A ∷ 0x11 ∷ 0x1A ∷ 0x11 ∷ 0x1A ∷ 0x11 ∷ 0x1A ∷ 0x11 ∷ 0x1A ∷ 0x11
          ∷ 0x41 ∷ 0x10 ∷ 0x10 ∷ 0x1C ∷ 0x41 ∷ 0x20 ∷ 0 ∷ 2 ∷ 0x83 ∷ 0x12 ∷ 0x01 ∷ 0x00 ∷ 0x07 ∷ 0
          ∷ 0xC8 ∷ 0xC9 ∷ [];
    } ∷ []
unfolding line_of is_plain fields mnemonic_of row_named operation constant space is_name name_of number_of operand_of operands simple_operand closed is_decimal slots filled instruction row_numbered lines is_passed sources place_of resolved in_range assembly
adding_bytes = refl

-- an address that is a name, and no USING
abbrev pub without_base : List ℕ
without_base = codes "A CSECT\n L 1,W\nW DC F'1'\n END\n"

pub no_base : refusal_of (sources without_base) ≡ Some (refusal.NoBase 2)
unfolding line_of is_plain fields mnemonic_of row_named operation constant space is_name name_of number_of operand_of operands simple_operand closed is_decimal slots filled instruction row_numbered lines is_passed sources place_of resolved in_range refusal_of
no_base = refl
