-- Worked values.
use Rattle.std.specs.Prelude.{◌≡◌, codes, refl}
use Rattle.std.specs.Fmt.{digits}
use Rattle.esa_model.specs.Table.{row_numbered, fields}
use Rattle.asm_text.specs.Operands.{operands_of}
use Rattle.asm_text.specs.Text.{text_of}
use Rattle.text_law.specs.Between.{between, ignored}

-- a shift, and what it ignores beside its register
pub shifted :
    between (codes "MAIN") (fields 63 4 0 0 0 2 63 0 0)
    ≡ codes "MAIN CSECT\n SRL 4,63(2)\n END\n"
unfolding between text_of operands_of row_numbered digits
shifted = refl

pub ignores_a_register : ignored (fields 63 4 15 0 0 2 63 0 0) ≡ 15
unfolding row_numbered
ignores_a_register = refl

-- LM has two
pub has_two_registers : ignored (fields 79 14 12 0 0 13 12 0 0) ≡ 0
unfolding row_numbered
has_two_registers = refl
