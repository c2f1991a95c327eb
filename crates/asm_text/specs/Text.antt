-- The text of an instruction: a statement of the assembler's language.
-- Source: choice of this project; names are those of the opcode table.
use Rattle.std.specs.Prelude.{ℕ, ◌==◌, List, ◌++◌, take, Option, Some, None, position, codes}
use Rattle.run_model.specs.Numbers.{decimal}
use Rattle.esa_model.specs.declared.instructions.Decoded.{Decoded}
use Rattle.esa_model.specs.declared.instructions.Row.{Row}
use Rattle.esa_model.specs.Table.{row_numbered}
use Rattle.asm_text.specs.declared.operands.Operand.{Operand}
use Rattle.asm_text.specs.declared.operands.Operand.TheVariants.{Number, Minus, Based, Indexed}
use Rattle.asm_text.specs.declared.operands.Operands.{Operands}
use Rattle.asm_text.specs.declared.operands.Operands.TheVariants.{One, Two, Three}
use Rattle.asm_text.specs.Operands.{operands_of}

-- a name of the table as far as its first blank
abbrev pub cut : Option ℕ → List ℕ → List ℕ
cut None name = name
cut (Some n) name = take n name

abbrev pub mnemonic_of : List ℕ → List ℕ
mnemonic_of name = cut (position (λ b. b == 32) name) name

-- n, -n, d(b) and d(x,b)
abbrev pub operand_text : Operand → List ℕ
operand_text (Number n) = decimal n
operand_text (Minus n) = codes "-" ++ decimal n
operand_text (Based d b) = decimal d ++ codes "(" ++ decimal b ++ codes ")"
operand_text (Indexed d x b) =
    decimal d ++ codes "(" ++ decimal x ++ codes "," ++ decimal b ++ codes ")"

abbrev pub operands_text : Operands → List ℕ
operands_text (One a) = operand_text a
operands_text (Two a b) = operand_text a ++ codes "," ++ operand_text b
operands_text (Three a b c) =
    operand_text a ++ codes "," ++ operand_text b ++ codes "," ++ operand_text c

abbrev pub text_by : Row → Decoded → List ℕ
text_by row d = mnemonic_of row.name ++ codes " " ++ operands_text (operands_of row.form row.opcode d)

-- the text of an instruction, by the row of its number
unfoldable pub text_of : Decoded → List ℕ
text_of d = text_by (row_numbered d.row) d
