-- The bytes of an instruction.
-- Source: Principles of Operation, chapter on program execution (instruction formats). That the
-- bits which a form ignores are written as zeros is a choice of this project.
use Rattle.std.specs.Prelude.{ℕ, ◌≡◌, ◌+◌, ◌-◌, ◌*◌, ◌/◌, ◌%◌, ◌^◌, ◌<◌, nat_lt, nat_le, ◌==◌, ◌&&◌, ◌||◌, not, Bool, true, if◌then◌else◌, List, [], ◌∷◌, ◌++◌, length, replicate}
use Rattle.esa_model.specs.declared.instructions.Form.{Form}
use Rattle.esa_model.specs.declared.instructions.Form.TheVariants.{Rr, Rx, Rs, Si, S, Ri, Rsi, Rre, Ss1, Ss2}
use Rattle.esa_model.specs.declared.instructions.Decoded.{Decoded}
use Rattle.esa_model.specs.Table.{row_numbered, kind_numbered}
use Rattle.esa_model.specs.Rows.All.{is_of_kind}

-- the fields that a form has not are zero, and its immediate byte is one
abbrev pub HasOnly : Form → Decoded → Type 0
HasOnly Rr d = (d.b1 ≡ 0) × (d.d1 ≡ 0) × (d.b2 ≡ 0) × (d.d2 ≡ 0) × (d.imm ≡ 0) × (d.len ≡ 0)
HasOnly Rx d = (d.b1 ≡ 0) × (d.d1 ≡ 0) × (d.imm ≡ 0) × (d.len ≡ 0)
HasOnly Rs d = (d.b1 ≡ 0) × (d.d1 ≡ 0) × (d.imm ≡ 0) × (d.len ≡ 0)
HasOnly Si d = (d.r1 ≡ 0) × (d.r2 ≡ 0) × (d.b2 ≡ 0) × (d.d2 ≡ 0) × (d.imm < 2 ^ 8) × (d.len ≡ 0)
HasOnly S d = (d.r1 ≡ 0) × (d.r2 ≡ 0) × (d.b1 ≡ 0) × (d.d1 ≡ 0) × (d.imm ≡ 0) × (d.len ≡ 0)
HasOnly Ri d = (d.r2 ≡ 0) × (d.b1 ≡ 0) × (d.d1 ≡ 0) × (d.b2 ≡ 0) × (d.d2 ≡ 0) × (d.len ≡ 0)
HasOnly Rsi d = (d.b1 ≡ 0) × (d.d1 ≡ 0) × (d.b2 ≡ 0) × (d.d2 ≡ 0) × (d.len ≡ 0)
HasOnly Rre d = (d.b1 ≡ 0) × (d.d1 ≡ 0) × (d.b2 ≡ 0) × (d.d2 ≡ 0) × (d.imm ≡ 0) × (d.len ≡ 0)
HasOnly Ss1 d = (d.r1 ≡ 0) × (d.r2 ≡ 0) × (d.imm ≡ 0)
HasOnly Ss2 d = (d.imm ≡ 0) × (d.len ≡ 0)

-- each field in its range
pub record IsInRange (d : Decoded) : Type 0 where
  pub r1 : d.r1 < 16
  pub r2 : d.r2 < 16
  pub b1 : d.b1 < 16
  pub d1 : d.d1 < 4096
  pub b2 : d.b2 < 16
  pub d2 : d.d2 < 4096
  pub imm : d.imm < 2 ^ 16
  pub len : d.len < 2 ^ 8

-- an instruction of the table: the number of a row, fields in range, and zeros where the form has
-- no field
pub record IsInstruction (d : Decoded) : Type 0 where
  pub row : d.row < 134
  pub range : IsInRange d
  pub form : HasOnly (row_numbered d.row).form d

-- the values that the line of its row names are defined
abbrev pub HasLine : Decoded → Type 0
HasLine d = is_of_kind (kind_numbered d.row) (row_numbered d.row).opcode ≡ true

-- an opcode of one byte within bounds that is not one of the two bytes which begin longer ones
abbrev pub is_short : ℕ → ℕ → ℕ → Bool
is_short low high o = nat_le low o && (nat_lt o high && (not (o == 0xA7) && not (o == 0xB2)))

-- a form and an opcode go together
abbrev pub fits : Form → ℕ → Bool
fits Rr o = is_short 0 64 o
fits Rx o = is_short 64 192 o
fits Rs o = is_short 64 192 o
fits Si o = is_short 64 192 o
fits S o = is_short 64 192 o || (o / 256 == 0xB2)
fits Ri o = o / 16 == 0xA7
fits Rsi o = is_short 64 192 o
fits Rre o = o / 256 == 0xB2
fits Ss1 o = is_short 192 256 o
fits Ss2 o = is_short 192 256 o

-- two half-bytes, and a base with its displacement
abbrev pub halves : ℕ → ℕ → ℕ
halves left right = left * 16 + right

abbrev pub based : ℕ → ℕ → List ℕ → List ℕ
based b d rest = halves b (d / 256) ∷ d % 256 ∷ rest

abbrev pub two_bytes : ℕ → List ℕ → List ℕ
two_bytes n rest = n / 256 ∷ n % 256 ∷ rest

-- the opcode of form S: one byte and an ignored one, or two
abbrev pub s_opcode : ℕ → List ℕ → List ℕ
s_opcode opcode rest = if nat_lt opcode 256 then opcode ∷ 0 ∷ rest else two_bytes opcode rest

-- the bytes of an instruction, by the form and the opcode of its row
abbrev pub encoded : Form → ℕ → Decoded → List ℕ
encoded Rr o d = o ∷ halves d.r1 d.r2 ∷ []
encoded Rx o d = o ∷ halves d.r1 d.r2 ∷ based d.b2 d.d2 []
encoded Rs o d = o ∷ halves d.r1 d.r2 ∷ based d.b2 d.d2 []
encoded Si o d = o ∷ d.imm ∷ based d.b1 d.d1 []
encoded S o d = s_opcode o (based d.b2 d.d2 [])
encoded Ri o d = o / 16 ∷ halves d.r1 (o % 16) ∷ two_bytes d.imm []
encoded Rsi o d = o ∷ halves d.r1 d.r2 ∷ two_bytes d.imm []
encoded Rre o d = two_bytes o (0 ∷ halves d.r1 d.r2 ∷ [])
encoded Ss1 o d = o ∷ d.len ∷ based d.b1 d.d1 (based d.b2 d.d2 [])
encoded Ss2 o d = o ∷ halves d.r1 d.r2 ∷ based d.b1 d.d1 (based d.b2 d.d2 [])

-- the same by the number of its row
abbrev pub instruction_bytes : Decoded → List ℕ
instruction_bytes d = encoded (row_numbered d.row).form (row_numbered d.row).opcode d

-- bytes filled up with zeros to six
abbrev pub filled : List ℕ → List ℕ
filled bytes = bytes ++ replicate (6 - length bytes) 0
