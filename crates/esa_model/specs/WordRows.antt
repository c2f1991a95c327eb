-- The values of the operations on words: the first word (that of R1 afterwards), the second word of a pair (0 where
-- there is no pair), the condition code or 4 where it stays, and the program code or 0. Sums and products are those of whole numbers.
-- Source: Principles of Operation, chapter on general instructions; the names of the instructions stand at each row.
use Rattle.std.specs.Prelude.{ℕ, zero, suc, ◌+◌, ◌-◌, ◌*◌, ◌/◌, ◌%◌, ◌^◌, nat_lt, ◌==◌, if◌then◌else◌, ℤ, pos, ◌+ℤ◌, ◌-ℤ◌, ◌*ℤ◌, neg_ℤ, int_lt, int_div, int_rem, unsigned_abs, bit_and, bit_or, bit_xor, List, [], ◌∷◌, Bool, true, false}
use Rattle.std.specs.Int.{int_div_euclid, int_rem_euclid}
use Rattle.esa_model.specs.declared.codes.TheConstants.{STAYS, FIXED_OVERFLOW, FIXED_DIVIDE}
use Rattle.esa_model.specs.declared.machine.Value.{Value}
use Rattle.esa_model.specs.Word.{signed, arith}

abbrev pub value : ℕ → ℕ → ℕ → ℕ → Value
value word low code fault = record { word = word; low = low; cc = code; fault = fault }

-- a word, with the condition code as it was
abbrev pub plain : ℕ → Value
plain word = value word 0 STAYS 0

-- ---- whole numbers

-- the word of a whole number, modulo 2^32
abbrev pub word : ℤ → ℕ
word z = unsigned_abs (int_rem_euclid z (pos (2 ^ 32)))

-- the condition code of a sign: zero, negative, positive
abbrev pub sign_code : ℤ → ℕ
sign_code z = if int_lt z (pos 0) then 1 else if int_lt (pos 0) z then 2 else 0

-- the condition code of a comparison: equal, first low, first high
abbrev pub order_code : ℤ → ℤ → ℕ
order_code x y = if int_lt x y then 1 else if int_lt y x then 2 else 0

-- the condition code of a result of bits: zero, not zero
abbrev pub bits_code : ℕ → ℕ
bits_code word = if word == 0 then 0 else 1

-- a signed result: where it has no word, code 3 and a fixed-point overflow
abbrev pub signed_result : ℤ → Value
signed_result z = value (word z) 0 (arith z) (if arith z == 3 then FIXED_OVERFLOW else 0)

abbrev pub bits_result : ℕ → Value
bits_result w = value w 0 (bits_code w) 0

-- the whole number of a pair of registers, signed and without sign
abbrev pub pair : ℕ → ℕ → ℤ
pair high low = (signed high *ℤ pos (2 ^ 32)) +ℤ pos low

abbrev pub pair_bits : ℕ → ℕ → ℕ
pair_bits high low = high * 2 ^ 32 + low

-- a whole number in a pair, modulo 2^64
abbrev pub high_word : ℤ → ℕ
high_word z = word (int_div_euclid z (pos (2 ^ 32)))

-- ---- rows on two words: the register (or pair) and the second operand

-- LPR
unfoldable pub load_positive_row : ℕ → Value
load_positive_row b = signed_result (pos (unsigned_abs (signed b)))

-- LNR
unfoldable pub load_negative_row : ℕ → Value
load_negative_row b = signed_result (neg_ℤ (pos (unsigned_abs (signed b))))

-- LTR
unfoldable pub load_and_test_row : ℕ → Value
load_and_test_row b = value b 0 (sign_code (signed b)) 0

-- LCR
unfoldable pub load_complement_row : ℕ → Value
load_complement_row b = signed_result (neg_ℤ (signed b))

-- NR, N
unfoldable pub and_row : ℕ → ℕ → Value
and_row a b = bits_result (bit_and a b)

-- OR, O
unfoldable pub or_row : ℕ → ℕ → Value
or_row a b = bits_result (bit_or a b)

-- XR, X
unfoldable pub exclusive_or_row : ℕ → ℕ → Value
exclusive_or_row a b = bits_result (bit_xor a b)

-- CLR, CL
unfoldable pub compare_logical_row : ℕ → ℕ → Value
compare_logical_row a b = value a 0 (order_code (pos a) (pos b)) 0

-- LR, L
unfoldable pub load_row : ℕ → Value
load_row b = plain b

-- CR, C
unfoldable pub compare_row : ℕ → ℕ → Value
compare_row a b = value a 0 (order_code (signed a) (signed b)) 0

-- AR, A
unfoldable pub add_row : ℕ → ℕ → Value
add_row a b = signed_result (signed a +ℤ signed b)

-- SR, S
unfoldable pub subtract_row : ℕ → ℕ → Value
subtract_row a b = signed_result (signed a -ℤ signed b)

-- MR, M: the product of the second word of the pair, in the pair
abbrev pub pair_result : ℤ → Value
pair_result z = value (high_word z) (word z) STAYS 0

unfoldable pub multiply_row : ℕ → ℕ → Value
multiply_row low b = pair_result (signed low *ℤ signed b)

-- MSR, MS: the low word of the product
unfoldable pub multiply_single_row : ℕ → ℕ → Value
multiply_single_row a b = plain (word (signed a *ℤ signed b))

-- DR, D: the remainder with the dividend's sign, and the quotient toward zero; where the divisor is zero or the quotient
-- has no word the pair stays, with a fixed-point divide exception
abbrev pub not_divided : ℕ → ℕ → Value
not_divided a low = value a low STAYS FIXED_DIVIDE

unfoldable pub divide_row : ℕ → ℕ → ℕ → Value
divide_row a low b =
    let z = pair a low in
    let d = signed b in
    if b == 0 then not_divided a low else
    if arith (int_div z d) == 3 then not_divided a low else
    value (word (int_rem z d)) (word (int_div z d)) STAYS 0

-- ALR, AL: 1 where the word is not zero, and 2 more with a carry
unfoldable pub add_logical_row : ℕ → ℕ → Value
add_logical_row a b =
    let w = (a + b) % 2 ^ 32 in
    value w 0 (bits_code w + (if nat_lt (a + b) (2 ^ 32) then 0 else 2)) 0

-- SLR, SL: 1 not zero with a borrow, 2 zero, 3 not zero without
unfoldable pub subtract_logical_row : ℕ → ℕ → Value
subtract_logical_row a b =
    value ((a + 2 ^ 32 - b) % 2 ^ 32) 0 (if nat_lt a b then 1 else if a == b then 2 else 3) 0

-- ---- rows on a word and a halfword

-- a halfword as a word with the same signed number
abbrev pub extended : ℕ → ℕ
extended h = if nat_lt h (2 ^ 15) then h else h + (2 ^ 32 - 2 ^ 16)

-- LH, LHI
unfoldable pub load_half_row : ℕ → Value
load_half_row h = plain (extended h)

-- CH, CHI
unfoldable pub compare_half_row : ℕ → ℕ → Value
compare_half_row a h = compare_row a (extended h)

-- AH, AHI
unfoldable pub add_half_row : ℕ → ℕ → Value
add_half_row a h = add_row a (extended h)

-- SH
unfoldable pub subtract_half_row : ℕ → ℕ → Value
subtract_half_row a h = subtract_row a (extended h)

-- MH, MHI
unfoldable pub multiply_half_row : ℕ → ℕ → Value
multiply_half_row a h = multiply_single_row a (extended h)

-- the place, counted from the right, of the leftmost one among the low n bits; 0 where there is none
abbrev pub leftmost : ℕ → ℕ → ℕ
leftmost zero w = 0
leftmost (suc n) w = if w / 2 ^ n % 2 == 1 then n else leftmost n w

-- the condition code of 16 bits under a mask: the selected bits all zero or none selected; mixed, the leftmost of them
-- zero; mixed, the leftmost of them one; all ones
unfoldable pub test_code : ℕ → ℕ → ℕ
test_code bits mask =
    let ones = bit_and bits mask in
    if ones == 0 then 0 else
    if ones == mask then 3 else
    if bits / 2 ^ leftmost 16 mask % 2 == 1 then 2 else 1

-- TMH: bits 0-15
unfoldable pub test_high_row : ℕ → ℕ → Value
test_high_row a mask = value a 0 (test_code (a / 2 ^ 16) mask) 0

-- TML: bits 16-31
unfoldable pub test_low_row : ℕ → ℕ → Value
test_low_row a mask = value a 0 (test_code (a % 2 ^ 16) mask) 0

-- ---- shifts by n, below 64: of a word of w bits, 32 or 64

-- the numeric bits, those after the sign
abbrev pub numeric : ℕ → ℕ → ℕ
numeric w bits = bits % 2 ^ (w - 1)

-- a left shift of the numeric bits, zeros from the right; the sign stays
abbrev pub shifted_left : ℕ → ℕ → ℕ → ℕ
shifted_left w bits n = bits / 2 ^ (w - 1) * 2 ^ (w - 1) + numeric w bits * 2 ^ n % 2 ^ (w - 1)

-- the n bits that it shifts out of the place after the sign
abbrev pub lost : ℕ → ℕ → ℕ → ℕ
lost w bits n = numeric w bits * 2 ^ n / 2 ^ (w - 1)

-- n bits like the sign: zeros for a positive number, ones for a negative one
abbrev pub like_sign : ℕ → ℕ → ℕ → ℕ
like_sign w bits n = if nat_lt bits (2 ^ (w - 1)) then 0 else 2 ^ n - 1

-- the condition code of the sign of w bits
abbrev pub bits_sign : ℕ → ℕ → ℕ
bits_sign w bits = if bits == 0 then 0 else if nat_lt bits (2 ^ (w - 1)) then 2 else 1

-- an overflow where a bit unlike the sign is lost
abbrev pub left_code : ℕ → ℕ → ℕ → ℕ
left_code w bits n = if lost w bits n == like_sign w bits n then bits_sign w (shifted_left w bits n) else 3

abbrev pub left_fault : ℕ → ℕ → ℕ → ℕ
left_fault w bits n = if lost w bits n == like_sign w bits n then 0 else FIXED_OVERFLOW

-- 64 bits in a pair
abbrev pub in_pair : ℕ → ℕ → ℕ → Value
in_pair bits code fault = value (bits / 2 ^ 32) (bits % 2 ^ 32) code fault

-- SRL
unfoldable pub shift_right_logical_row : ℕ → ℕ → Value
shift_right_logical_row a n = plain (a / 2 ^ n)

-- SLL
unfoldable pub shift_left_logical_row : ℕ → ℕ → Value
shift_left_logical_row a n = plain (a * 2 ^ n % 2 ^ 32)

-- SRA: bits like the sign from the left, which is the number divided by 2^n, rounded down
unfoldable pub shift_right_row : ℕ → ℕ → Value
shift_right_row a n = let z = int_div_euclid (signed a) (pos (2 ^ n)) in value (word z) 0 (sign_code z) 0

-- SLA
unfoldable pub shift_left_row : ℕ → ℕ → Value
shift_left_row a n = value (shifted_left 32 a n) 0 (left_code 32 a n) (left_fault 32 a n)

-- SRDL
unfoldable pub shift_right_double_logical_row : ℕ → ℕ → ℕ → Value
shift_right_double_logical_row a low n = in_pair (pair_bits a low / 2 ^ n) STAYS 0

-- SLDL
unfoldable pub shift_left_double_logical_row : ℕ → ℕ → ℕ → Value
shift_left_double_logical_row a low n = in_pair (pair_bits a low * 2 ^ n % 2 ^ 64) STAYS 0

-- SRDA
unfoldable pub shift_right_double_row : ℕ → ℕ → ℕ → Value
shift_right_double_row a low n =
    let z = int_div_euclid (pair a low) (pos (2 ^ n)) in value (high_word z) (word z) (sign_code z) 0

-- SLDA
unfoldable pub shift_left_double_row : ℕ → ℕ → ℕ → Value
shift_left_double_row a low n =
    let bits = pair_bits a low in in_pair (shifted_left 64 bits n) (left_code 64 bits n) (left_fault 64 bits n)

-- ---- the rows by opcode

-- rows by opcode, and the row of one of them
abbrev pub look : ℕ → List (ℕ × (ℕ → ℕ → ℕ → Value)) → ℕ → ℕ → ℕ → Value
look op [] a low b = value 0 0 0 0
look op (row ∷ rows) a low b = if row.0 == op then row.1 a low b else look op rows a low b

abbrev pub lists : ℕ → List (ℕ × (ℕ → ℕ → ℕ → Value)) → Bool
lists op [] = false
lists op (row ∷ rows) = if row.0 == op then true else lists op rows

-- register and second operand; with a pair its two words and the second operand
abbrev pub rr_rows : List (ℕ × (ℕ → ℕ → ℕ → Value))
rr_rows =
    (0x10, λ a low b. load_positive_row b) ∷
    (0x11, λ a low b. load_negative_row b) ∷
    (0x12, λ a low b. load_and_test_row b) ∷
    (0x13, λ a low b. load_complement_row b) ∷
    (0x14, λ a low b. and_row a b) ∷
    (0x15, λ a low b. compare_logical_row a b) ∷
    (0x16, λ a low b. or_row a b) ∷
    (0x17, λ a low b. exclusive_or_row a b) ∷
    (0x18, λ a low b. load_row b) ∷
    (0x19, λ a low b. compare_row a b) ∷
    (0x1A, λ a low b. add_row a b) ∷
    (0x1B, λ a low b. subtract_row a b) ∷
    (0x1C, λ a low b. multiply_row low b) ∷
    (0x1D, λ a low b. divide_row a low b) ∷
    (0x1E, λ a low b. add_logical_row a b) ∷
    (0x1F, λ a low b. subtract_logical_row a b) ∷
    (0x54, λ a low b. and_row a b) ∷
    (0x55, λ a low b. compare_logical_row a b) ∷
    (0x56, λ a low b. or_row a b) ∷
    (0x57, λ a low b. exclusive_or_row a b) ∷
    (0x58, λ a low b. load_row b) ∷
    (0x59, λ a low b. compare_row a b) ∷
    (0x5A, λ a low b. add_row a b) ∷
    (0x5B, λ a low b. subtract_row a b) ∷
    (0x5C, λ a low b. multiply_row low b) ∷
    (0x5D, λ a low b. divide_row a low b) ∷
    (0x5E, λ a low b. add_logical_row a b) ∷
    (0x5F, λ a low b. subtract_logical_row a b) ∷
    (0x71, λ a low b. multiply_single_row a b) ∷
    []

unfoldable pub rr_row : ℕ → ℕ → ℕ → ℕ → Value
rr_row op a low b = look op rr_rows a low b

unfoldable pub is_rr : ℕ → Bool
is_rr op = lists op rr_rows

-- register and halfword; the rows on an immediate halfword have the opcodes of those on one of the storage, TMH and
-- TML X'A0' and X'A1'
abbrev pub half_rows : List (ℕ × (ℕ → ℕ → ℕ → Value))
half_rows =
    (0x48, λ a low h. load_half_row h) ∷
    (0x49, λ a low h. compare_half_row a h) ∷
    (0x4A, λ a low h. add_half_row a h) ∷
    (0x4B, λ a low h. subtract_half_row a h) ∷
    (0x4C, λ a low h. multiply_half_row a h) ∷
    (0xA0, λ a low h. test_high_row a h) ∷
    (0xA1, λ a low h. test_low_row a h) ∷
    []

unfoldable pub half_row : ℕ → ℕ → ℕ → Value
half_row op a h = look op half_rows a 0 h

unfoldable pub is_half : ℕ → Bool
is_half op = lists op half_rows

-- register or pair, and the number of places
abbrev pub shift_rows : List (ℕ × (ℕ → ℕ → ℕ → Value))
shift_rows =
    (0x88, λ a low n. shift_right_logical_row a n) ∷
    (0x89, λ a low n. shift_left_logical_row a n) ∷
    (0x8A, λ a low n. shift_right_row a n) ∷
    (0x8B, λ a low n. shift_left_row a n) ∷
    (0x8C, λ a low n. shift_right_double_logical_row a low n) ∷
    (0x8D, λ a low n. shift_left_double_logical_row a low n) ∷
    (0x8E, λ a low n. shift_right_double_row a low n) ∷
    (0x8F, λ a low n. shift_left_double_row a low n) ∷
    []

unfoldable pub shift_row : ℕ → ℕ → ℕ → ℕ → Value
shift_row op a low n = look op shift_rows a low n

unfoldable pub is_shift : ℕ → Bool
is_shift op = lists op shift_rows
