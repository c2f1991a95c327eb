-- The registers and the PSW after the operations that branch or link, and after those that set or take the program mask.
-- length is the length code, next the address of the next instruction, target the branch address; a row of form RR takes
-- it from R2, where register number 0 does not branch. All operands are taken before a register or the PSW is changed.
-- Source: Principles of Operation, chapter on general instructions; the names of the instructions stand at each row.
use Rattle.std.specs.Prelude.{ℕ, ◌+◌, ◌-◌, ◌*◌, ◌/◌, ◌%◌, ◌^◌, ◌==◌, int_lt, if◌then◌else◌, List, [], ◌∷◌, Bool, true, false, slice_index, slice_set}
use Rattle.esa_model.specs.declared.machine.Psw.{Psw}
use Rattle.esa_model.specs.declared.machine.Registers.{Registers}
use Rattle.esa_model.specs.declared.instructions.Decoded.{Decoded}
use Rattle.esa_model.specs.Word.{signed, bits}
use Rattle.esa_model.specs.Psw.{code_of, program_mask, with_code_and_mask, is_wide, mode_bit, in_mode, with_address, wrapped}

abbrev pub first : Registers → Decoded → ℕ
first r d = slice_index r.general d.r1

abbrev pub second : Registers → Decoded → ℕ
second r d = slice_index r.general d.r2

-- the PSW with an instruction address, in its mode
unfoldable pub at_address : Psw → ℕ → Psw
at_address p to = with_address p (wrapped p to)

-- the registers with another PSW, and with a word in R1
abbrev pub with_psw : Registers → Psw → Registers
with_psw r p = record r { psw = p }

abbrev pub with_first : Registers → Decoded → ℕ → Psw → Registers
with_first r d word p = record r { general = slice_set r.general d.r1 word; psw = p }

-- the branch address of RR
abbrev pub register_target : Registers → Decoded → ℕ → ℕ
register_target r d next = if d.r2 == 0 then next else second r d

-- ---- linkage

-- the link of 31-bit mode: bit 0 one and the next address
abbrev pub wide_link : ℕ → ℕ
wide_link next = 2 ^ 31 + next % 2 ^ 31

-- the link of BRANCH AND LINK: in 24-bit mode length code, condition code, program mask and next address
unfoldable pub link_of : Psw → ℕ → ℕ → ℕ
link_of p length next =
    if is_wide p then wide_link next
    else length % 4 * 2 ^ 30 + code_of p * 2 ^ 28 + program_mask p * 2 ^ 24 + next % 2 ^ 24

-- the link of BRANCH AND SAVE: in 24-bit mode eight zeros and the next address
unfoldable pub save_of : Psw → ℕ → ℕ
save_of p next = if is_wide p then wide_link next else next % 2 ^ 24

-- BAL, and BALR with its branch address
unfoldable pub branch_and_link : ℕ → ℕ → ℕ → Registers → Decoded → Registers
branch_and_link length next target r d = with_first r d (link_of r.psw length next) (at_address r.psw target)

-- BALR
unfoldable pub branch_and_link_register : ℕ → ℕ → Registers → Decoded → Registers
branch_and_link_register length next r d = branch_and_link length next (register_target r d next) r d

-- BAS, BRAS
unfoldable pub branch_and_save : ℕ → ℕ → Registers → Decoded → Registers
branch_and_save next target r d = with_first r d (save_of r.psw next) (at_address r.psw target)

-- BASR
unfoldable pub branch_and_save_register : ℕ → Registers → Decoded → Registers
branch_and_save_register next r d = branch_and_save next (register_target r d next) r d

-- ---- the addressing mode

-- mode and branch by R2; register number 0 does neither
abbrev pub by_mode : Registers → Decoded → ℕ → Psw
by_mode r d next = if d.r2 == 0 then at_address r.psw next else in_mode r.psw (second r d)

-- BSM: the mode becomes bit 0 of R1; register number 0 keeps none
unfoldable pub branch_and_set_mode : ℕ → Registers → Decoded → Registers
branch_and_set_mode next r d =
    if d.r1 == 0 then with_psw r (by_mode r d next)
    else with_first r d (mode_bit r.psw * 2 ^ 31 + first r d % 2 ^ 31) (by_mode r d next)

-- BASSM
unfoldable pub branch_and_save_and_set_mode : ℕ → Registers → Decoded → Registers
branch_and_save_and_set_mode next r d = with_first r d (save_of r.psw next) (by_mode r d next)

-- ---- conditions and counts

-- the mask's bit 8, 4, 2 or 1 for the condition code 0, 1, 2 or 3 is one
abbrev pub is_selected : ℕ → ℕ → Bool
is_selected mask code = mask / 2 ^ (3 - code) % 2 == 1

-- BC, BRC: the mask is in the place of R1
unfoldable pub branch_on_condition : ℕ → ℕ → Registers → Decoded → Registers
branch_on_condition next target r d =
    with_psw r (at_address r.psw (if is_selected d.r1 (code_of r.psw) then target else next))

-- BCR
unfoldable pub branch_on_condition_register : ℕ → Registers → Decoded → Registers
branch_on_condition_register next r d = branch_on_condition next (register_target r d next) r d

-- one less, modulo 2^32
abbrev pub less_one : ℕ → ℕ
less_one word = (word + (2 ^ 32 - 1)) % 2 ^ 32

-- BCT, BRCT
unfoldable pub branch_on_count : ℕ → ℕ → Registers → Decoded → Registers
branch_on_count next target r d =
    let count = less_one (first r d) in
    with_first r d count (at_address r.psw (if count == 0 then next else target))

-- BCTR
unfoldable pub branch_on_count_register : ℕ → Registers → Decoded → Registers
branch_on_count_register next r d = branch_on_count next (register_target r d next) r d

-- the sum of R1 and R3, modulo 2^32
abbrev pub index_of : Registers → Decoded → ℕ
index_of r d = (first r d + second r d) % 2 ^ 32

-- the comparand: R3 where its number is odd, else its odd neighbour
abbrev pub comparand : Registers → Decoded → ℕ
comparand r d = slice_index r.general (d.r2 / 2 * 2 + 1)

abbrev pub is_high : Registers → Decoded → Bool
is_high r d = int_lt (signed (comparand r d)) (signed (index_of r d))

-- BXH, BRXH
unfoldable pub branch_on_index_high : ℕ → ℕ → Registers → Decoded → Registers
branch_on_index_high next target r d =
    with_first r d (index_of r d) (at_address r.psw (if is_high r d then target else next))

-- BXLE, BRXLE
unfoldable pub branch_on_index_low_or_equal : ℕ → ℕ → Registers → Decoded → Registers
branch_on_index_low_or_equal next target r d =
    with_first r d (index_of r d) (at_address r.psw (if is_high r d then next else target))

-- ---- condition code and program mask

-- SPM: condition code and program mask from bits 2-3 and 4-7 of R1
unfoldable pub set_program_mask : ℕ → Registers → Decoded → Registers
set_program_mask next r d =
    with_psw r (with_code_and_mask (at_address r.psw next) (bits (first r d) 2 7))

-- IPM: bits 0-7 of R1 become 00, condition code, program mask
unfoldable pub insert_program_mask : ℕ → Registers → Decoded → Registers
insert_program_mask next r d =
    with_first r d (code_of r.psw * 2 ^ 28 + program_mask r.psw * 2 ^ 24 + first r d % 2 ^ 24) (at_address r.psw next)

-- ---- the rows by opcode

abbrev pub look : ℕ → List (ℕ × (ℕ → ℕ → ℕ → Registers → Decoded → Registers)) → ℕ → ℕ → ℕ → Registers → Decoded → Registers
look op [] length next target r d = r
look op (row ∷ rows) length next target r d =
    if row.0 == op then row.1 length next target r d else look op rows length next target r d

abbrev pub lists : ℕ → List (ℕ × (ℕ → ℕ → ℕ → Registers → Decoded → Registers)) → Bool
lists op [] = false
lists op (row ∷ rows) = if row.0 == op then true else lists op rows

abbrev pub branch_rows : List (ℕ × (ℕ → ℕ → ℕ → Registers → Decoded → Registers))
branch_rows =
    (0x04, λ length next target r d. set_program_mask next r d) ∷
    (0x05, λ length next target r d. branch_and_link_register length next r d) ∷
    (0x06, λ length next target r d. branch_on_count_register next r d) ∷
    (0x07, λ length next target r d. branch_on_condition_register next r d) ∷
    (0x0B, λ length next target r d. branch_and_set_mode next r d) ∷
    (0x0C, λ length next target r d. branch_and_save_and_set_mode next r d) ∷
    (0x0D, λ length next target r d. branch_and_save_register next r d) ∷
    (0x45, λ length next target r d. branch_and_link length next target r d) ∷
    (0x46, λ length next target r d. branch_on_count next target r d) ∷
    (0x47, λ length next target r d. branch_on_condition next target r d) ∷
    (0x4D, λ length next target r d. branch_and_save next target r d) ∷
    (0x84, λ length next target r d. branch_on_index_high next target r d) ∷
    (0x85, λ length next target r d. branch_on_index_low_or_equal next target r d) ∷
    (0x86, λ length next target r d. branch_on_index_high next target r d) ∷
    (0x87, λ length next target r d. branch_on_index_low_or_equal next target r d) ∷
    (0xA74, λ length next target r d. branch_on_condition next target r d) ∷
    (0xA75, λ length next target r d. branch_and_save next target r d) ∷
    (0xA76, λ length next target r d. branch_on_count next target r d) ∷
    (0xB222, λ length next target r d. insert_program_mask next r d) ∷
    []

unfoldable pub branch_row : ℕ → ℕ → ℕ → ℕ → Registers → Decoded → Registers
branch_row op length next target r d = look op branch_rows length next target r d

unfoldable pub is_branch : ℕ → Bool
is_branch op = lists op branch_rows
