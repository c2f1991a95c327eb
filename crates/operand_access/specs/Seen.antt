-- The values of the code as those of the definitions.
-- Source: Principles of Operation, chapter on storage (addressing, protection).
use Rattle.std.specs.Prelude.{ℕ, ◌/◌, ◌+◌, ◌<◌, ◌≡◌, ◌&&◌, nat_lt, nat_le, Bool, true, if◌then◌else◌, List, All, get_or, map, length, slice_get}
use Rattle.std.specs.Option.{unwrap_or}
use Rattle.esa_model.specs.declared.machine.Registers.{Registers}
use Rattle.esa_model.specs.declared.codes.TheConstants.{ADDRESSING, PROTECTION}
use Rattle.esa_model.specs.Psw.{key_of}
use Rattle.esa_model.specs.Word.{first_code}
use Rattle.esa_model.specs.Access.{Memory, Operand, Operands, place, real, protects_low, allows, codes, in_turn, written}

abbrev pub memory : List ℕ → List ℕ → Memory
memory storage keys = record { storage = storage; keys = keys }

-- whether a byte may be accessed in a storage of so many bytes
unfoldable pub permit_in : Registers → ℕ → List ℕ → Bool → ℕ → ℕ
permit_in r size keys store n =
    if nat_le size (place r n) then ADDRESSING else
    if store && (protects_low r && nat_lt (real r n) 512) then PROTECTION else
    if allows store (key_of r.psw) (unwrap_or (slice_get keys (place r n / 4096)) 0)
    then 0
    else PROTECTION

-- the codes of an operand, in a storage of so many bytes
abbrev pub codes_in : Registers → ℕ → List ℕ → Bool → ℕ → List ℕ → List ℕ
codes_in r size keys store at ks = map (λ k. permit_in r size keys store (at + k)) ks

abbrev pub operand_codes_in : Registers → ℕ → List ℕ → Operand → List ℕ
operand_codes_in r size keys o = codes_in r size keys o.store o.at o.offsets

-- the first code over the bytes of two operands in turn, in a storage of so many bytes, and in a
-- memory
abbrev pub turn_code_in : Registers → ℕ → List ℕ → Operand → Operand → ℕ
turn_code_in r size keys a b =
    first_code (in_turn (operand_codes_in r size keys a) (operand_codes_in r size keys b))

abbrev pub turn_code : Registers → Memory → Operand → Operand → ℕ
turn_code r m a b = first_code (in_turn (codes r m a) (codes r m b))

-- the first code over an operand, in any storage of so many bytes
abbrev pub IsRefusal : Registers → ℕ → List ℕ → Operand → ℕ → Type 0
IsRefusal r size keys o code =
    (storage : List ℕ) → size ≡ length storage → code ≡ first_code (codes r (memory storage keys) o)

-- what stores leave at an absolute address of any storage that holds this byte there before
abbrev pub IsLeft : Registers → ℕ → List ℕ → ℕ → ℕ → ℕ → Type 0
IsLeft r at bytes a before after =
    (storage : List ℕ) → a < length storage → get_or storage a 0 ≡ before
    → after ≡ get_or (written r at bytes storage) a 0

-- the bytes of an operand are inside a storage of so many bytes
abbrev pub IsInside : Registers → ℕ → Operand → Type 0
IsInside r size o = All (λ k. place r (o.at + k) < size) o.offsets

pub record AreInside (r : Registers) (size : ℕ) (os : Operands) : Type 0 where
  pub first : IsInside r size os.first
  pub second : IsInside r size os.second

-- where two operands are used byte and byte in turn, they have the same number of bytes
abbrev pub AreEven : Operands → Type 0
AreEven os = os.paired ≡ true → length os.first.offsets ≡ length os.second.offsets
