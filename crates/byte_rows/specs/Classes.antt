-- What the lines of the classes say of an instruction where it stands: the test of its register
-- numbers and lengths, its operands, and what it does.
-- Source: choice of this project; each row has its source in the module of its class.
use Rattle.std.specs.Prelude.{ℕ, ◌==◌, if◌then◌else◌, List, [], Bool, true}
use Rattle.esa_model.specs.declared.machine.Registers.{Registers}
use Rattle.esa_model.specs.declared.machine.Value.{Value}
use Rattle.esa_model.specs.declared.instructions.Decoded.{Decoded}
use Rattle.esa_model.specs.declared.decimals.Edited.{Edited}
use Rattle.esa_model.specs.declared.kinds.ByteKind.{ByteKind}
use Rattle.esa_model.specs.declared.kinds.DecimalKind.{DecimalKind}
use Rattle.esa_model.specs.Access.{Operands}
use Rattle.esa_model.specs.LongMoves.{after_unit}
use Rattle.esa_model.specs.Psw.{is_wide}
use Rattle.esa_model.specs.Line.{Effect, advanced, always, coded, refuses, stores}
use Rattle.esa_model.specs.Rows.Bytes.{bytes_line}
use Rattle.esa_model.specs.Rows.Decimals.{decimals_line, decimal_effect, edit_line, field_line, with_mark}
use Rattle.row_frame.specs.declared.instruction.Instruction.{Instruction}
use Rattle.row_frame.specs.Made.{inputs}

abbrev pub bytes_order : ByteKind → ℕ → Registers → List ℕ → Instruction → Bool
bytes_order kind op r storage i = (bytes_line kind op).in_order (inputs r storage i)

abbrev pub bytes_operands : ByteKind → ℕ → Registers → List ℕ → Instruction → Operands
bytes_operands kind op r storage i = (bytes_line kind op).operands (inputs r storage i)

abbrev pub bytes_effect : ByteKind → ℕ → Registers → List ℕ → Instruction → Effect
bytes_effect kind op r storage i = (bytes_line kind op).effect (inputs r storage i)

abbrev pub decimals_order : DecimalKind → ℕ → Registers → List ℕ → Instruction → Bool
decimals_order kind op r storage i = (decimals_line kind op).in_order (inputs r storage i)

abbrev pub decimals_operands : DecimalKind → ℕ → Registers → List ℕ → Instruction → Operands
decimals_operands kind op r storage i = (decimals_line kind op).operands (inputs r storage i)

abbrev pub decimals_effect : DecimalKind → ℕ → Registers → List ℕ → Instruction → Effect
decimals_effect kind op r storage i = (decimals_line kind op).effect (inputs r storage i)

-- ---- rows on decimal fields

-- the operands of a row on two fields, of which the first is fetched, or stored, or both
abbrev pub two_field_operands : Bool → Bool → Registers → Instruction → Operands
two_field_operands fetches storing r i =
    (field_line 0 always fetches storing).operands (inputs r [] i)

-- what such a row does
abbrev pub two_field_effect : ℕ → Bool → Registers → List ℕ → Instruction → Effect
two_field_effect op storing r storage i =
    (field_line op always true storing).effect (inputs r storage i)

-- what a row does that leaves this field and value
abbrev pub field_ending : Registers → Instruction → Bool → List ℕ → Value → Effect
field_ending r i storing field v =
    decimal_effect (inputs r [] i) storing (record { field = field; value = v })

-- the operands of an edit, of which the second has as many bytes as are used, and what it does
abbrev pub editing_operands : Bool → Registers → List ℕ → Instruction → Operands
editing_operands marking r storage i = (edit_line marking).operands (inputs r storage i)

abbrev pub editing_effect : Bool → Registers → List ℕ → Instruction → Effect
editing_effect marking r storage i = (edit_line marking).effect (inputs r storage i)

-- what it does, by its answer and the pattern that it leaves, from an operand at an address
abbrev pub edit_ending : Bool → Registers → ℕ → ℕ → Edited → List ℕ → Effect
edit_ending marking r len at e pattern =
    if e.fault == 0
    then stores (coded (with_mark marking (advanced r len) at e.mark) e.cc) pattern
    else refuses r e.fault

-- ---- units of the long rows

-- the registers after a unit that takes so many bytes of both operands
abbrev pub passed : Registers → Decoded → ℕ → ℕ → Registers
passed r d first second =
    record r { general = after_unit r.general d.r1 d.r2 (is_wide r.psw) first second }
