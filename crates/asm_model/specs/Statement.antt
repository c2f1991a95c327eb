-- Operations: how they are named, and what each is with its operands.
-- Source: choice of this project; machine instructions have the names of the opcode table.
use Rattle.std.specs.Prelude.{ℕ, ◌+◌, ◌-◌, ◌*◌, ◌%◌, ◌==◌, ◌&&◌, Bool, nat_lt, nat_le, if◌then◌else◌, List, [], ◌∷◌, ◌++◌, length, replicate, slice_index, position, Option, Some, None}
use Rattle.std.specs.List.{list_all}
use Rattle.byteorder.specs.Endian.{big_number}
use Rattle.esa_model.specs.Table.{rows}
use Rattle.asm_model.specs.declared.operands.Operand.{Operand}
use Rattle.asm_model.specs.declared.operands.Operand.TheVariants.{Plain, Negative, Based, Indexed, Named, Bad}
use Rattle.asm_model.specs.declared.operands.Given.{Given}
use Rattle.asm_model.specs.declared.statements.Mnemonic.{Mnemonic}
use Rattle.asm_model.specs.declared.statements.Mnemonic.TheVariants as mnemonic
use Rattle.asm_model.specs.declared.statements.Operation.{Operation}
use Rattle.asm_model.specs.declared.statements.Operation.TheVariants.{Section, Bytes, Word, Address, External, Space, AlignWord, AlignDouble, Using, End, Instruction}
use Rattle.asm_model.specs.Words.{within, name_of, number_of, is_hex_byte, is_enclosed, is_quoted, quoted}
use Rattle.asm_model.specs.Pieces.{operands, pieces, signed, simple_operand}
use Rattle.asm_model.specs.Slots.{instruction}

-- ---- names of operations

-- up to six bytes as a number, as the names of rows are
abbrev pub six : List ℕ → ℕ
six w = big_number 6 (w ++ replicate (6 - length w) 32)

unfoldable pub row_named : ℕ → Option ℕ
row_named name = position (λ r. big_number 6 r.name == name) rows

abbrev pub machine : Option ℕ → Option Mnemonic
machine None = None
machine (Some row) = Some (mnemonic.Machine row)

abbrev pub mnemonic_numbered : ℕ → Option Mnemonic
mnemonic_numbered n =
    if n == 0x435345435420 then Some mnemonic.Csect
    else (if n == 0x444320202020 then Some mnemonic.Dc
    else (if n == 0x445320202020 then Some mnemonic.Ds
    else (if n == 0x5553494E4720 then Some mnemonic.Using
    else (if n == 0x454E44202020 then Some mnemonic.End
    else machine (row_named n)))))

unfoldable pub mnemonic_of : List ℕ → Option Mnemonic
mnemonic_of w = if within 1 6 (length w) then mnemonic_numbered (six w) else None

-- ---- DC

abbrev pub hex_digit_value : ℕ → ℕ
hex_digit_value b = if nat_lt b 65 then b - 48 else b - 55

-- the bytes of digits, two each
abbrev pub pairs : List ℕ → List ℕ
pairs [] = []
pairs (a ∷ []) = []
pairs (a ∷ b ∷ more) = (hex_digit_value a * 16 + hex_digit_value b) ∷ pairs more

-- 1 to 56 bytes
abbrev pub hex_bytes : List ℕ → Option Operation
hex_bytes h =
    if list_all is_hex_byte h && (within 2 112 (length h) && (length h % 2 == 0))
    then Some (Bytes (record { items = pairs h }))
    else None

-- a word of two's complement, of -2,147,483,648 to 2,147,483,647
abbrev pub word_by : Operand → Option Operation
word_by (Plain n) = if nat_lt n 2147483648 then Some (Word n) else None
word_by (Negative n) =
    if nat_le n 2147483648 then Some (Word ((4294967296 - n) % 4294967296)) else None
word_by (Based d b) = None
word_by (Indexed d x b) = None
word_by (Named m n) = None
word_by Bad = None

abbrev pub address_by : Operand → Option Operation
address_by (Named m n) = Some (Address m n)
address_by (Plain n) = None
address_by (Negative n) = None
address_by (Based d b) = None
address_by (Indexed d x b) = None
address_by Bad = None

abbrev pub external_by : Option ℕ → Option Operation
external_by None = None
external_by (Some m) = Some (External m)

-- X'..', F'..', A(..) and V(..)
unfoldable pub constant : List ℕ → Option Operation
constant w =
    if is_quoted 88 w then hex_bytes (quoted w)
    else (if is_quoted 70 w then word_by (signed (quoted w))
    else (if is_enclosed 65 40 41 w then address_by (simple_operand (quoted w))
    else (if is_enclosed 86 40 41 w then external_by (name_of (quoted w)) else None)))

-- ---- DS

abbrev pub space_of : Option ℕ → Option Operation
space_of None = None
space_of (Some n) = if within 1 65535 n then Some (Space n) else None

-- two bytes
abbrev pub is_pair : ℕ → ℕ → List ℕ → Bool
is_pair a b w = (length w == 2) && ((slice_index w 0 == a) && (slice_index w 1 == b))

-- 0F, 0D, or a number of bytes
unfoldable pub space : List ℕ → Option Operation
space w =
    if is_pair 48 70 w then Some AlignWord
    else (if is_pair 48 68 w then Some AlignDouble else space_of (number_of w))

-- ---- USING and END

abbrev pub using_of : Option ℕ → Option ℕ → Option Operation
using_of None r = None
using_of (Some m) None = None
using_of (Some m) (Some r) = Some (Using m r)

abbrev pub using_by : List (List ℕ) → Option Operation
using_by [] = None
using_by (m ∷ []) = None
using_by (m ∷ r ∷ []) = using_of (name_of m) (number_of r)
using_by (m ∷ r ∷ x ∷ more) = None

abbrev pub end_by : Option ℕ → Option Operation
end_by None = None
end_by (Some m) = Some (End (Some m))

-- ---- all of them

-- a section has a name and no operands
abbrev pub section_by : Option ℕ → List ℕ → Option Operation
section_by None text = None
section_by (Some m) text = if length text == 0 then Some Section else None

abbrev pub instruction_by : Option Given → Option Operation
instruction_by None = None
instruction_by (Some g) = Some (Instruction g)

-- an operation with the text of its operands, of a statement with this name
unfoldable pub operation : Mnemonic → Option ℕ → List ℕ → Option Operation
operation mnemonic.Csect name text = section_by name text
operation mnemonic.Dc name text = constant text
operation mnemonic.Ds name text = space text
operation mnemonic.Using name text = using_by (pieces [] text)
operation mnemonic.End name text =
    if length text == 0 then Some (End None) else end_by (name_of text)
operation (mnemonic.Machine row) name text = instruction_by (instruction row (operands text))
