-- Access to the storage, byte by byte: real and absolute addresses, protection, the bytes and blocks of operands.
-- Source: Principles of Operation, chapter on storage (addressing, prefixing, key-controlled and low-address protection).
-- Which blocks an event references, and the order of tests, are choices of this project.
use Rattle.std.specs.Prelude.{ℕ, ◌+◌, ◌*◌, ◌/◌, ◌%◌, ◌^◌, nat_lt, nat_le, ◌==◌, if◌then◌else◌, List, [], ◌∷◌, ◌++◌, Bool, true, false, not, ◌&&◌, ◌||◌, length, map, slice_get, slice_index, slice_set}
use Rattle.std.specs.Option.{unwrap_or}
use Rattle.std.specs.List.{range_with_len}
use Rattle.esa_model.specs.declared.codes.TheConstants.{ADDRESSING, PROTECTION}
use Rattle.esa_model.specs.declared.machine.Registers.{Registers}
use Rattle.esa_model.specs.Psw.{wrapped, key_of}
use Rattle.esa_model.specs.Word.{first_code, bits}

-- the bytes, and a key for each block of 4096 bytes
pub record Memory : Type 0 where
  pub storage : List ℕ
  pub keys : List ℕ

-- bits 1-19 of the prefix: the number of its page
abbrev pub prefix_page : ℕ → ℕ
prefix_page prefix = prefix % 2 ^ 31 / 4096

-- prefixing exchanges real page 0 and the prefix's page
abbrev pub absolute : ℕ → ℕ → ℕ
absolute prefix real =
    if real / 4096 == 0 then prefix_page prefix * 4096 + real % 4096 else
    if real / 4096 == prefix_page prefix then real % 4096 else real

-- the real address of an effective address: wrapped by the mode
abbrev pub real : Registers → ℕ → ℕ
real r n = wrapped r.psw n

-- the absolute address of an effective address
unfoldable pub place : Registers → ℕ → ℕ
place r n = absolute r.prefix (real r n)

-- the byte at an address, zero outside the storage
unfoldable pub byte : Registers → List ℕ → ℕ → ℕ
byte r storage n = unwrap_or (slice_get storage (place r n)) 0

-- so many bytes from an address on
unfoldable pub bytes : Registers → List ℕ → ℕ → ℕ → List ℕ
bytes r storage at len = map (λ k. byte r storage (at + k)) (range_with_len 0 len)

-- the storage with successive bytes stored from an address on; one outside is not stored
abbrev pub written : Registers → ℕ → List ℕ → List ℕ → List ℕ
written r at [] storage = storage
written r at (x ∷ xs) storage = written r (at + 1) xs (slice_set storage (place r at) x)

-- ---- protection

-- control register 0, bit 3: low-address protection
abbrev pub protects_low : Registers → Bool
protects_low r = bits (slice_index r.control 0) 3 3 == 1

-- what a block's key allows to the PSW's key: bits 0-3 are the access key, bit 4 is fetch protection
abbrev pub allows : Bool → ℕ → ℕ → Bool
allows store psw_key key = psw_key == 0 || (key / 16 == psw_key || (not store && key / 8 % 2 == 0))

-- why a byte may not be accessed: addressing outside the storage, protection, or 0
unfoldable pub permit : Registers → Memory → Bool → ℕ → ℕ
permit r m store n =
    if nat_le (length m.storage) (place r n) then ADDRESSING else
    if store && (protects_low r && nat_lt (real r n) 512) then PROTECTION else
    if allows store (key_of r.psw) (unwrap_or (slice_get m.keys (place r n / 4096)) 0) then 0 else PROTECTION

-- ---- operands

-- the bytes of an operand that an instruction uses, by their offsets and in the order of use
pub record Operand : Type 0 where
  pub at : ℕ
  pub offsets : List ℕ
  pub fetch : Bool
  pub store : Bool

-- two operands; paired where they are used byte and byte in turn
pub record Operands : Type 0 where
  pub first : Operand
  pub second : Operand
  pub paired : Bool

abbrev pub whole : ℕ → ℕ → Bool → Bool → Operand
whole at len fetch store = record { at = at; offsets = range_with_len 0 len; fetch = fetch; store = store }

abbrev pub none : Operand
none = record { at = 0; offsets = []; fetch = false; store = false }

-- the code of each byte used
unfoldable pub codes : Registers → Memory → Operand → List ℕ
codes r m o = map (λ k. permit r m o.store (o.at + k)) o.offsets

abbrev pub in_turn : List ℕ → List ℕ → List ℕ
in_turn [] ys = []
in_turn (x ∷ xs) [] = x ∷ in_turn xs []
in_turn (x ∷ xs) (y ∷ ys) = x ∷ y ∷ in_turn xs ys

-- the first code of all bytes used
unfoldable pub refused : Registers → Memory → Operands → ℕ
refused r m os =
    if os.paired
    then first_code (in_turn (codes r m os.first) (codes r m os.second))
    else first_code (first_code (codes r m os.first) ∷ first_code (codes r m os.second) ∷ [])

-- ---- referenced blocks, each once: those of the first operand before those of the second, of each in the order of use

abbrev pub has : ℕ → List ℕ → Bool
has b [] = false
has b (x ∷ xs) = if x == b then true else has b xs

unfoldable pub noted : List ℕ → ℕ → List ℕ
noted blocks b = if has b blocks then blocks else blocks ++ (b ∷ [])

abbrev pub noted_all : Registers → ℕ → List ℕ → List ℕ → List ℕ
noted_all r at [] blocks = blocks
noted_all r at (k ∷ ks) blocks = noted_all r at ks (noted blocks (place r (at + k) / 4096))

unfoldable pub noted_of : Registers → Operand → List ℕ → List ℕ
noted_of r o blocks = if o.fetch then noted_all r o.at o.offsets blocks else blocks

unfoldable pub referenced : Registers → Operands → List ℕ → List ℕ
referenced r os blocks = noted_of r os.second (noted_of r os.first blocks)
