-- The rows of the control instructions but DIAGNOSE and SIGNAL PROCESSOR: what each does, from the registers, the
-- number of the CPU, the size of the storage, the key of the block that it names, its fields and the bytes that it fetches.
-- Source: Principles of Operation, chapter on control instructions. That the instruction address is advanced by whoever
-- carries the row out, and that a prefix whose page is outside the storage is an addressing exception, are choices of this project.
use Rattle.std.specs.Prelude.{ℕ, ◌+◌, ◌-◌, ◌*◌, ◌/◌, ◌%◌, ◌^◌, nat_lt, ◌==◌, ◌||◌, if◌then◌else◌, List, [], ◌∷◌, Bool, true, false, Option, Some, None, map, drop, slice_index, slice_set, bit_and, bit_or}
use Rattle.std.specs.List.{range_with_len, flat_map}
use Rattle.byteorder.specs.Endian.{big_number, big_bytes}
use Rattle.esa_model.specs.declared.codes.TheConstants.{ADDRESSING, SPECIFICATION}
use Rattle.esa_model.specs.declared.machine.Registers.{Registers}
use Rattle.esa_model.specs.declared.instructions.Decoded.{Decoded}
use Rattle.esa_model.specs.Psw.{with_code, system_mask, with_system_mask}
use Rattle.esa_model.specs.Line.{second_at, register_count}

-- what a row does: the registers after it, without an advance of the instruction address, the bytes that it stores
-- from the front of its operand on, the key that it sets, and the program code that suppresses it, or 0
pub record Control : Type 0 where
  pub registers : Registers
  pub stored : List ℕ
  pub set_key : Option ℕ
  pub fault : ℕ

abbrev pub changes : Registers → Control
changes r = record { registers = r; stored = []; set_key = None; fault = 0 }

abbrev pub keeps : Registers → List ℕ → Control
keeps r bytes = record { registers = r; stored = bytes; set_key = None; fault = 0 }

abbrev pub suppresses : Registers → ℕ → Control
suppresses r fault = record { registers = r; stored = []; set_key = None; fault = fault }

-- ---- the system mask

abbrev pub with_mask : Registers → ℕ → Registers
with_mask r mask = record r { psw = with_system_mask r.psw mask }

-- X'80' SSM: the mask from the byte
unfoldable pub set_system_mask : Registers → List ℕ → Control
set_system_mask r operand = changes (with_mask r (slice_index operand 0))

-- X'AC' STNSM: the mask is stored, then and-ed with I2
unfoldable pub store_then_and : Registers → Decoded → Control
store_then_and r d = keeps (with_mask r (bit_and (system_mask r.psw) (d.imm % 256))) (system_mask r.psw ∷ [])

-- X'AD' STOSM: the mask is stored, then or-ed with I2
unfoldable pub store_then_or : Registers → Decoded → Control
store_then_or r d = keeps (with_mask r (bit_or (system_mask r.psw) (d.imm % 256))) (system_mask r.psw ∷ [])

-- X'82' LPSW: both words of the PSW
unfoldable pub load_psw : Registers → List ℕ → Control
load_psw r operand = changes (record r { psw = record { w0 = big_number 4 operand; w1 = big_number 4 (drop 4 operand) } })

-- ---- control registers: R1 to R3 in ascending order, 0 after 15

-- X'B6' STCTL
unfoldable pub store_control : Registers → Decoded → Control
store_control r d =
    keeps r (flat_map (λ k. big_bytes 4 (slice_index r.control ((d.r1 + k) % 16))) (range_with_len 0 (register_count d)))

-- register n is the word at its place after R1, where it is one of them
abbrev pub loaded_register : Registers → Decoded → List ℕ → ℕ → ℕ
loaded_register r d operand n =
    let k = (n + 16 - d.r1) % 16 in
    if nat_lt k (register_count d) then big_number 4 (drop (4 * k) operand) else slice_index r.control n

-- X'B7' LCTL
unfoldable pub load_control : Registers → Decoded → List ℕ → Control
load_control r d operand = changes (record r { control = map (loaded_register r d operand) (range_with_len 0 16) })

-- ---- prefix and CPU number

-- bits 1-19 of a word
abbrev pub prefix_bits : ℕ → ℕ
prefix_bits word = word % 2 ^ 31 / 4096 * 4096

-- X'B210' SPX: addressing where a byte of that page is outside the storage
unfoldable pub set_prefix : Registers → ℕ → List ℕ → Control
set_prefix r size operand =
    let prefix = prefix_bits (big_number 4 operand) in
    if nat_lt size (prefix + 4096) then suppresses r ADDRESSING else changes (record r { prefix = prefix })

-- X'B211' STPX
unfoldable pub store_prefix : Registers → Control
store_prefix r = keeps r (big_bytes 4 (prefix_bits r.prefix))

-- X'B212' STAP: a halfword
unfoldable pub store_number : Registers → ℕ → Control
store_number r cpu = keeps r (big_bytes 2 cpu)

-- ---- keys: bit 5 of a key is reference, bit 6 change, bit 7 zero

-- X'B229' ISKE: bits 24-30 of R1 from the key, bit 31 zero
unfoldable pub insert_key : Registers → ℕ → Decoded → Control
insert_key r key d = changes (record r { general = slice_set r.general d.r1 (slice_index r.general d.r1 / 256 * 256 + key / 2 * 2) })

-- X'B22A' RRBE: the reference bit off; the condition code has the reference bit and the change bit as they were
unfoldable pub reset_reference : Registers → ℕ → Control
reset_reference r key =
    record (changes (record r { psw = with_code r.psw (key / 4 % 2 * 2 + key / 2 % 2) })) { set_key = Some (key / 8 * 8 + key % 4) }

-- X'B22B' SSKE: the key from bits 24-30 of R1
unfoldable pub set_key_from : Registers → Decoded → Control
set_key_from r d = record (changes r) { set_key = Some (slice_index r.general d.r1 % 256 / 2 * 2) }

-- ---- all of them

-- the boundary on which the operand is to be, by the opcode: specification where it is not
abbrev pub boundary : ℕ → ℕ
boundary op =
    if op == 0x82 then 8 else if op == 0xB6 || (op == 0xB7 || (op == 0xB210 || op == 0xB211)) then 4 else
    if op == 0xB212 then 2 else 1

unfoldable pub is_on_boundary : ℕ → Registers → Decoded → Bool
is_on_boundary op r d = second_at r d % boundary op == 0

-- how many bytes a row fetches
unfoldable pub fetched_len : ℕ → Decoded → ℕ
fetched_len op d =
    if op == 0x80 then 1 else if op == 0x82 then 8 else if op == 0xB210 then 4 else
    if op == 0xB7 then 4 * register_count d else 0

-- how many bytes a row stores
unfoldable pub stored_len : ℕ → Decoded → ℕ
stored_len op d =
    if op == 0xAC then 1 else if op == 0xAD then 1 else if op == 0xB6 then 4 * register_count d else
    if op == 0xB211 then 4 else if op == 0xB212 then 2 else 0

-- the rows that fetch their operand: SSM LPSW SPX LCTL; that store it: STPX STAP STCTL; that store the system mask: STNSM
-- STOSM; that are for a key: ISKE RRBE SSKE
abbrev pub is_fetching : ℕ → Bool
is_fetching op = op == 0x80 || (op == 0x82 || (op == 0xB210 || op == 0xB7))

abbrev pub is_storing : ℕ → Bool
is_storing op = op == 0xB211 || (op == 0xB212 || op == 0xB6)

abbrev pub is_mask : ℕ → Bool
is_mask op = op == 0xAC || op == 0xAD

abbrev pub is_key : ℕ → Bool
is_key op = op == 0xB229 || (op == 0xB22A || op == 0xB22B)

abbrev pub is_control : ℕ → Bool
is_control op = is_fetching op || (is_storing op || (is_mask op || is_key op))

-- a row of an operand that is on its boundary
abbrev pub row_done : ℕ → ℕ → ℕ → ℕ → Registers → Decoded → List ℕ → Control
row_done op cpu size key r d operand =
    if op == 0x80 then set_system_mask r operand else
    if op == 0x82 then load_psw r operand else
    if op == 0xAC then store_then_and r d else
    if op == 0xAD then store_then_or r d else
    if op == 0xB6 then store_control r d else
    if op == 0xB7 then load_control r d operand else
    if op == 0xB210 then set_prefix r size operand else
    if op == 0xB211 then store_prefix r else
    if op == 0xB212 then store_number r cpu else
    if op == 0xB229 then insert_key r key d else
    if op == 0xB22A then reset_reference r key else
    if op == 0xB22B then set_key_from r d else changes r

-- a row: an operand that is not on its boundary is a specification exception
unfoldable pub controlled : ℕ → ℕ → ℕ → ℕ → Registers → Decoded → List ℕ → Control
controlled op cpu size key r d operand =
    if is_on_boundary op r d then row_done op cpu size key r d operand else suppresses r SPECIFICATION

-- ---- DIAGNOSE, which is the console: X'100' writes, X'104' reads (true), of 1 to 256 bytes; specification where none
unfoldable pub console_called : ℕ → ℕ → Option Bool
console_called function count =
    if nat_lt count 1 || nat_lt 256 count then None else
    if function == 0x100 then Some false else
    if function == 0x104 then Some true else None
