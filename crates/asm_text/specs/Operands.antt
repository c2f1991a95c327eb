-- The operands of an instruction, as its statement writes them.
-- Source: fields and forms, Principles of Operation, chapter on program execution. In which order and form they
-- are written is a choice of this project.
use Rattle.std.specs.Prelude.{ℕ, ◌+◌, ◌-◌, ◌*◌, ◌==◌, ◌&&◌, Bool, nat_lt, nat_le, if◌then◌else◌}
use Rattle.esa_model.specs.declared.instructions.Form.{Form}
use Rattle.esa_model.specs.declared.instructions.Form.TheVariants.{Rr, Rx, Rs, Si, S, Ri, Rsi, Rre, Ss1, Ss2}
use Rattle.esa_model.specs.declared.instructions.Decoded.{Decoded}
use Rattle.asm_text.specs.declared.operands.Operand.{Operand}
use Rattle.asm_text.specs.declared.operands.Operand.TheVariants.{Number, Minus, Based, Indexed}
use Rattle.asm_text.specs.declared.operands.Operands.{Operands}
use Rattle.asm_text.specs.declared.operands.Operands.TheVariants.{One, Two, Three}

-- a halfword of two's complement
abbrev pub signed : ℕ → Operand
signed half = if nat_lt half 0x8000 then Number half else Minus (0x10000 - half)

-- a field in storage: its number of bytes is one more than its length code
abbrev pub sized : ℕ → ℕ → ℕ → Operand
sized d code b = Indexed d (code + 1) b

abbrev pub registers : Decoded → Operands
registers d = Two (Number d.r1) (Number d.r2)

-- the opcodes of the shifts, which have one register
abbrev pub is_shift : ℕ → Bool
is_shift opcode = nat_le 0x88 opcode && nat_le opcode 0x8F

-- TMH and TML have a mask; the other immediate halfwords have a sign
abbrev pub half_of : ℕ → ℕ → Operand
half_of opcode half = if nat_le opcode 0xA71 then Number half else signed half

-- the operands by form and opcode. SPM and IPM have one register, SVC has the byte behind its opcode, and SRP
-- has its rounding digit in the place of the second length code
unfoldable pub operands_of : Form → ℕ → Decoded → Operands
operands_of Rr o d =
    if o == 0x04 then One (Number d.r1) else (if o == 0x0A then One (Number (d.r1 * 16 + d.r2)) else registers d)
operands_of Rx o d = Two (Number d.r1) (Indexed d.d2 d.r2 d.b2)
operands_of Rs o d =
    if is_shift o then Two (Number d.r1) (Based d.d2 d.b2)
    else Three (Number d.r1) (Number d.r2) (Based d.d2 d.b2)
operands_of Si o d = Two (Based d.d1 d.b1) (Number d.imm)
operands_of S o d = One (Based d.d2 d.b2)
operands_of Ri o d = Two (Number d.r1) (half_of o d.imm)
operands_of Rsi o d = Three (Number d.r1) (Number d.r2) (signed d.imm)
operands_of Rre o d = if o == 0xB222 then One (Number d.r1) else registers d
operands_of Ss1 o d = Two (sized d.d1 d.len d.b1) (Based d.d2 d.b2)
operands_of Ss2 o d =
    if o == 0xF0 then Three (sized d.d1 d.r1 d.b1) (Based d.d2 d.b2) (Number d.r2)
    else Two (sized d.d1 d.r1 d.b1) (sized d.d2 d.r2 d.b2)

-- the most bytes that an operand has in writing: a halfword has up to five digits, a byte up to three
abbrev pub width : Operand → ℕ
width (Number n) = 5
width (Minus n) = 6
width (Based d b) = 10
width (Indexed d x b) = 16

-- the same of all operands, with the commas between them
abbrev pub whole_width : Operands → ℕ
whole_width (One a) = width a
whole_width (Two a b) = width a + width b + 1
whole_width (Three a b c) = width a + width b + width c + 2
