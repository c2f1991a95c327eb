-- The operands of a machine instruction, and the fields that they give.
-- Source: fields and forms, Principles of Operation, chapter on program execution. In which order and form they
-- are written is a choice of this project. A field outside its range is 65,536, which is above every range: so
-- whether a line is of a form and whether its fields are in range are two questions.
use Rattle.std.specs.Prelude.{ℕ, ◌-◌, ◌/◌, ◌%◌, ◌==◌, nat_lt, nat_le, if◌then◌else◌, List, [], ◌∷◌, Option, Some, None}
use Rattle.esa_model.specs.Table.{row_numbered}
use Rattle.esa_model.specs.declared.instructions.Form.{Form}
use Rattle.esa_model.specs.declared.instructions.Form.TheVariants.{Rr, Rx, Rs, Si, S, Ri, Rsi, Rre, Ss1, Ss2}
use Rattle.asm_model.specs.declared.operands.Operand.{Operand}
use Rattle.asm_model.specs.declared.operands.Operand.TheVariants.{Plain, Negative, Based, Indexed, Named, Bad}
use Rattle.asm_model.specs.declared.operands.Slot.{Slot}
use Rattle.asm_model.specs.declared.operands.Slot.TheVariants.{Reg1, Reg2, Both, Address1, Address2, Index2, Long, Sized1, Sized2, Byte, Half, SignedHalf, Target}
use Rattle.asm_model.specs.declared.operands.Goes.{Goes}
use Rattle.asm_model.specs.declared.operands.Goes.TheVariants.{First, Second, Half as HalfWord}
use Rattle.asm_model.specs.declared.operands.Reference.{Reference}
use Rattle.asm_model.specs.declared.operands.Given.{Given}
use Rattle.asm_model.specs.Words.{within}

-- which operands an instruction has, by the form and the opcode of its row: SPM and IPM have one register, SVC
-- the byte behind its opcode, shifts one register, and SRP its rounding digit last
unfoldable pub slots : Form → ℕ → List Slot
slots Rr o =
    if o == 0x04 then Reg1 ∷ [] else (if o == 0x0A then Both ∷ [] else Reg1 ∷ Reg2 ∷ [])
slots Rx o = Reg1 ∷ Index2 ∷ []
slots Rs o = if within 0x88 0x8F o then Reg1 ∷ Address2 ∷ [] else Reg1 ∷ Reg2 ∷ Address2 ∷ []
slots Si o = Address1 ∷ Byte ∷ []
slots S o = Address2 ∷ []
slots Ri o =
    if within 0xA74 0xA76 o then Reg1 ∷ Target ∷ []
    else (if nat_le o 0xA71 then Reg1 ∷ Half ∷ [] else Reg1 ∷ SignedHalf ∷ [])
slots Rsi o = Reg1 ∷ Reg2 ∷ Target ∷ []
slots Rre o = if o == 0xB222 then Reg1 ∷ [] else Reg1 ∷ Reg2 ∷ []
slots Ss1 o = Long ∷ Address2 ∷ []
slots Ss2 o = if o == 0xF0 then Sized1 ∷ Address2 ∷ Reg2 ∷ [] else Sized1 ∷ Sized2 ∷ []

-- ---- fields

-- a length code, by a number of bytes
abbrev pub code_of : ℕ → ℕ
code_of l = if l == 0 then 65536 else l - 1

-- a halfword with sign, of a number and of its negative
abbrev pub half_of : ℕ → ℕ
half_of n = if nat_lt n 32768 then n else 65536

abbrev pub minus_half : ℕ → ℕ
minus_half n = if nat_le n 32768 then (65536 - n) % 65536 else 65536

abbrev pub byte_of : ℕ → ℕ
byte_of n = if nat_lt n 256 then n else 65536

-- ---- an operand in its slot

abbrev pub refer : Goes → ℕ → ℕ → Option Reference
refer goes name n = Some (record { goes = goes; name = name; plus = n })

abbrev pub register : (ℕ → Given) → Operand → Option Given
register f (Plain n) = Some (f n)
register f (Negative n) = None
register f (Based d b) = None
register f (Indexed d x b) = None
register f (Named m n) = None
register f Bad = None

abbrev pub signed_half : Given → Operand → Option Given
signed_half g (Plain n) = Some (record g { imm = half_of n })
signed_half g (Negative n) = Some (record g { imm = minus_half n })
signed_half g (Based d b) = None
signed_half g (Indexed d x b) = None
signed_half g (Named m n) = None
signed_half g Bad = None

abbrev pub target : Given → Operand → Option Given
target g (Named m n) = Some (record g { to = refer HalfWord m n })
target g (Plain n) = signed_half g (Plain n)
target g (Negative n) = signed_half g (Negative n)
target g (Based d b) = None
target g (Indexed d x b) = None
target g Bad = None

abbrev pub first : Given → Operand → Option Given
first g (Plain d) = Some (record g { d1 = d })
first g (Based d b) = Some (record g { d1 = d; b1 = b })
first g (Named m n) = Some (record g { to = refer First m n })
first g (Negative n) = None
first g (Indexed d x b) = None
first g Bad = None

abbrev pub second : Given → Operand → Option Given
second g (Plain d) = Some (record g { d2 = d })
second g (Based d b) = Some (record g { d2 = d; b2 = b })
second g (Named m n) = Some (record g { to = refer Second m n })
second g (Negative n) = None
second g (Indexed d x b) = None
second g Bad = None

abbrev pub index : Given → Operand → Option Given
index g (Indexed d x b) = Some (record g { d2 = d; r2 = x; b2 = b })
index g (Plain d) = second g (Plain d)
index g (Based d b) = second g (Based d b)
index g (Named m n) = second g (Named m n)
index g (Negative n) = None
index g Bad = None

-- an address with its number of bytes: displacement, length code and base
abbrev pub sized : (ℕ → ℕ → ℕ → Given) → Operand → Option Given
sized f (Indexed d l b) = Some (f d (code_of l) b)
sized f (Plain n) = None
sized f (Negative n) = None
sized f (Based d b) = None
sized f (Named m n) = None
sized f Bad = None

unfoldable pub filled : Slot → Given → Operand → Option Given
filled Reg1 g o = register (λ n. record g { r1 = n }) o
filled Reg2 g o = register (λ n. record g { r2 = n }) o
filled Both g o = register (λ n. record g { r1 = n / 16; r2 = n % 16 }) o
filled Byte g o = register (λ n. record g { imm = byte_of n }) o
filled Half g o = register (λ n. record g { imm = n }) o
filled SignedHalf g o = signed_half g o
filled Target g o = target g o
filled Address1 g o = first g o
filled Address2 g o = second g o
filled Index2 g o = index g o
filled Long g o = sized (λ d l b. record g { d1 = d; len = l; b1 = b }) o
filled Sized1 g o = sized (λ d l b. record g { d1 = d; r1 = l; b1 = b }) o
filled Sized2 g o = sized (λ d l b. record g { d2 = d; r2 = l; b2 = b }) o

abbrev pub on_given : Option Given → (Given → Option Given) → Option Given
on_given None more = None
on_given (Some g) more = more g

-- each slot with its operand; none where they are not as many
abbrev pub given : List Slot → List Operand → Given → Option Given
given [] [] g = Some g
given [] (o ∷ os) g = None
given (s ∷ ss) [] g = None
given (s ∷ ss) (o ∷ os) g = on_given (filled s g o) (λ next. given ss os next)

abbrev pub nothing_given : ℕ → Given
nothing_given row = record {
  row = row;
  r1 = 0;
  r2 = 0;
  b1 = 0;
  d1 = 0;
  b2 = 0;
  d2 = 0;
  imm = 0;
  len = 0;
  to = None;
}

-- the instruction of a row with these operands
unfoldable pub instruction : ℕ → List Operand → Option Given
instruction row os =
    given (slots (row_numbered row).form (row_numbered row).opcode) os (nothing_given row)
