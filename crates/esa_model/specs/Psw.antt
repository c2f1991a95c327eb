-- The fields of a PSW, by the numbers of its bits, from 0 at the left.
-- Source: Principles of Operation, chapter on control (program-status word). That bits 1, 5, 16 and 17 are zero is a choice
-- of this project.
use Rattle.std.specs.Prelude.{ℕ, ◌+◌, ◌-◌, ◌*◌, ◌%◌, ◌^◌, ◌==◌, Bool, ◌&&◌, ◌||◌, not, if◌then◌else◌}
use Rattle.esa_model.specs.declared.machine.Psw.{Psw}
use Rattle.esa_model.specs.Word.{bits}

-- bits of the left word, 0 to 31, and of the right word, 32 to 63
abbrev pub left : Psw → ℕ → ℕ → ℕ
left p from to = bits p.w0 from to

abbrev pub right : Psw → ℕ → ℕ → ℕ
right p from to = bits p.w1 (from - 32) (to - 32)

-- ---- fields

abbrev pub system_mask : Psw → ℕ
system_mask p = left p 0 7

-- external interruptions are taken
abbrev pub is_open : Psw → Bool
is_open p = left p 7 7 == 1

-- the key
abbrev pub key_of : Psw → ℕ
key_of p = left p 8 11

abbrev pub is_waiting : Psw → Bool
is_waiting p = left p 14 14 == 1

abbrev pub is_problem : Psw → Bool
is_problem p = left p 15 15 == 1

-- the condition code
abbrev pub code_of : Psw → ℕ
code_of p = left p 18 19

abbrev pub program_mask : Psw → ℕ
program_mask p = left p 20 23

-- a fixed-point overflow interrupts
abbrev pub overflow_interrupts : Psw → Bool
overflow_interrupts p = left p 20 20 == 1

-- a decimal overflow interrupts
abbrev pub decimal_interrupts : Psw → Bool
decimal_interrupts p = left p 21 21 == 1

-- the addressing mode: one for 31-bit addresses
abbrev pub mode_bit : Psw → ℕ
mode_bit p = right p 32 32

abbrev pub is_wide : Psw → Bool
is_wide p = mode_bit p == 1

-- the instruction address
abbrev pub address : Psw → ℕ
address p = right p 33 63

-- an early specification exception: one of the bits 0-5, 16, 17 or 24-31 is one, bit 12 is zero, or bit 32 is zero and one
-- of the bits 33-39 is one
abbrev pub is_early : Psw → Bool
is_early p =
    not (left p 0 5 == 0) || (not (left p 16 17 == 0) || (not (left p 24 31 == 0) || (left p 12 12 == 0 ||
    (mode_bit p == 0 && not (right p 33 39 == 0)))))

-- ---- a PSW with another field

abbrev pub with_system_mask : Psw → ℕ → Psw
with_system_mask p mask = record p { w0 = mask * 2 ^ 24 + left p 8 31 }

abbrev pub with_code : Psw → ℕ → Psw
with_code p code = record p { w0 = left p 0 17 * 2 ^ 14 + code * 2 ^ 12 + left p 20 31 }

-- condition code and program mask, bits 18-23
abbrev pub with_code_and_mask : Psw → ℕ → Psw
with_code_and_mask p both = record p { w0 = left p 0 17 * 2 ^ 14 + both * 2 ^ 8 + left p 24 31 }

abbrev pub with_address : Psw → ℕ → Psw
with_address p a = record p { w1 = mode_bit p * 2 ^ 31 + a }

-- an address in the mode of the PSW
abbrev pub wrapped : Psw → ℕ → ℕ
wrapped p a = if is_wide p then a % 2 ^ 31 else a % 2 ^ 24

-- the mode of a word's bit 0, and the address of its other bits in that mode
abbrev pub in_mode : Psw → ℕ → Psw
in_mode p word = record p { w1 = if bits word 0 0 == 1 then word else bits word 8 31 }
