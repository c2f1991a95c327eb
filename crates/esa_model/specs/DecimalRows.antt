-- The decimal instructions and conversions, over signed whole numbers.
-- Source: Principles of Operation, chapters Decimal Instructions and General Instructions.
-- Choice of this project: what the Principles end by termination is suppressed, CONVERT TO BINARY of a
-- value out of range too; a suppressed operation leaves the field and the condition code.
use Rattle.std.specs.Prelude.{ℕ, ◌≡◌, ◌-◌, ◌*◌, ◌/◌, ◌%◌, Bool, not, ◌&&◌, ◌||◌, ◌==◌, nat_le, nat_lt, List, ◌++◌, length, take, ℤ, pos, negsuc, unsigned_abs, int_lt, ◌+ℤ◌, ◌-ℤ◌, if◌then◌else◌}
use Rattle.std.specs.Int.{is_negative, int_rem_euclid, cast_signed, w32}
use Rattle.std.specs.List.{list_all}
use Rattle.esa_model.specs.Packed.{is_packed, magnitude_of, is_negative_field, whole, value_of, written, limit, differ, shifted}
use Rattle.esa_model.specs.Halves.{moved_halves}
use Rattle.esa_model.specs.declared.codes.TheConstants.{STAYS, SPECIFICATION, DATA, FIXED_DIVIDE, DECIMAL_OVERFLOW, DECIMAL_DIVIDE}
use Rattle.esa_model.specs.declared.machine.Value.{Value}

-- the first operand's field and the value after an instruction
pub record Decimal : Type 0 where
  pub field : List ℕ
  pub value : Value

-- a condition code, 4 where it stays, and a program code or 0
abbrev pub ends : ℕ → ℕ → Value
ends code fault = record { word = 0; low = 0; cc = code; fault = fault }

abbrev pub suppressed : List ℕ → ℕ → Decimal
suppressed field fault = record { field = field; value = ends STAYS fault }

-- 3 and a decimal overflow where digits are lost, else 0 zero, 1 negative, 2 positive
abbrev pub sum_value : ℕ → Bool → ℕ → Value
sum_value n negative m =
    if nat_le (limit n) m then ends 3 DECIMAL_OVERFLOW
    else (if m == 0 then ends 0 0 else (if negative then ends 1 0 else ends 2 0))

-- an exact result in a field of n bytes: its low digits and its own sign, so that zero is positive,
-- unless it is what digits that are lost left of a negative number
unfoldable pub stored : ℕ → ℤ → Decimal
stored n z = record {
  field = written n (is_negative z) (unsigned_abs z);
  value = sum_value n (is_negative z) (unsigned_abs z);
}

unfoldable pub add_row : List ℕ → List ℕ → Decimal
add_row first second =
    if is_packed first && is_packed second then stored (length first) (value_of first +ℤ value_of second)
    else suppressed first DATA

unfoldable pub subtract_row : List ℕ → List ℕ → Decimal
subtract_row first second =
    if is_packed first && is_packed second then stored (length first) (value_of first -ℤ value_of second)
    else suppressed first DATA

-- the first operand is not read
unfoldable pub zero_and_add_row : List ℕ → List ℕ → Decimal
zero_and_add_row first second =
    if is_packed second then stored (length first) (value_of second) else suppressed first DATA

-- 0 equal, 1 first low, 2 first high
abbrev pub order_code : ℤ → ℤ → ℕ
order_code x y = if int_lt x y then 1 else (if int_lt y x then 2 else 0)

unfoldable pub compare_row : List ℕ → List ℕ → Decimal
compare_row first second =
    if is_packed first && is_packed second
    then record { field = first; value = ends (order_code (value_of first) (value_of second)) 0 }
    else suppressed first DATA

-- the second operand has more than 8 bytes, or as many as the first or more
abbrev pub bad_lengths : List ℕ → List ℕ → Bool
bad_lengths first second = nat_lt 8 (length second) || nat_le (length first) (length second)

-- the first operand has as many zero bytes at its left as the second has bytes
abbrev pub has_room : List ℕ → List ℕ → Bool
has_room first second = list_all (λ b. b == 0) (take (length second) first)

-- the sign is by algebra, for zero too
abbrev pub product : List ℕ → List ℕ → Decimal
product first second = record {
  field = written (length first) (differ (is_negative_field first) (is_negative_field second))
      (magnitude_of first * magnitude_of second);
  value = ends STAYS 0;
}

unfoldable pub multiply_row : List ℕ → List ℕ → Decimal
multiply_row first second =
    if bad_lengths first second then suppressed first SPECIFICATION
    else (if (is_packed first && is_packed second) && has_room first second then product first second
    else suppressed first DATA)

-- the divisor is not zero, and the quotient fits the bytes that the remainder leaves
abbrev pub has_quotient : List ℕ → List ℕ → Bool
has_quotient first second =
    not (magnitude_of second == 0)
    && nat_lt (magnitude_of first / magnitude_of second) (limit (length first - length second))

-- the quotient at the left, the remainder at the right, as long as the divisor and with the dividend's sign
abbrev pub quotient_and_remainder : List ℕ → List ℕ → Decimal
quotient_and_remainder first second = record {
  field = written (length first - length second) (differ (is_negative_field first) (is_negative_field second))
      (magnitude_of first / magnitude_of second)
      ++ written (length second) (is_negative_field first) (magnitude_of first % magnitude_of second);
  value = ends STAYS 0;
}

unfoldable pub divide_row : List ℕ → List ℕ → Decimal
divide_row first second =
    if bad_lengths first second then suppressed first SPECIFICATION
    else (if is_packed first && is_packed second
    then (if has_quotient first second then quotient_and_remainder first second else suppressed first DECIMAL_DIVIDE)
    else suppressed first DATA)

-- six bits as a signed number: 0 to 31 to the left, 32 to 63 to the right by 64 less it
abbrev pub signed_shift : ℕ → ℤ
signed_shift by = if nat_lt by 32 then pos by else negsuc (63 - by)

unfoldable pub shift_row : List ℕ → ℕ → ℕ → Decimal
shift_row first by round =
    if is_packed first && nat_lt round 10
    then stored (length first)
    (whole (is_negative_field first) (shifted (magnitude_of first) (signed_shift by) round))
    else suppressed first DATA

abbrev pub halves_row : ℕ → List ℕ → List ℕ → Decimal
halves_row op first second = record { field = moved_halves op first second; value = ends STAYS 0 }

-- MVO PACK UNPK, and with them ZAP CP AP SP MP DP
abbrev pub is_halves : ℕ → Bool
is_halves op = (op == 0xF1) || ((op == 0xF2) || (op == 0xF3))

abbrev pub is_two : ℕ → Bool
is_two op = is_halves op || ((op == 0xF8) || ((op == 0xF9) || ((op == 0xFA) || ((op == 0xFB) || ((op == 0xFC) || (op == 0xFD))))))

-- the instructions of two fields
unfoldable pub two_row : ℕ → List ℕ → List ℕ → Decimal
two_row op first second =
    if op == 0xF8 then zero_and_add_row first second
    else (if op == 0xF9 then compare_row first second
    else (if op == 0xFA then add_row first second
    else (if op == 0xFB then subtract_row first second
    else (if op == 0xFC then multiply_row first second
    else (if op == 0xFD then divide_row first second
    else halves_row op first second)))))

-- a row gives this field and this value
abbrev pub Leaves : Decimal → List ℕ → Value → Type 0
Leaves row field value = row ≡ record { field = field; value = value }

-- ---- conversions
abbrev pub signed_word : ℕ → ℤ
signed_word w = cast_signed w32 w

-- a whole number in a word, code 9 where it is outside
abbrev pub word_value : ℤ → Value
word_value z =
    if int_lt (negsuc 2147483648) z && int_lt z (pos 2147483648)
    then record { word = unsigned_abs (int_rem_euclid z (pos 4294967296)); low = 0; cc = STAYS; fault = 0 }
    else ends STAYS FIXED_DIVIDE

unfoldable pub to_binary : List ℕ → Value
to_binary f = if is_packed f then word_value (value_of f) else ends STAYS DATA

unfoldable pub to_decimal : ℕ → List ℕ
to_decimal w = written 8 (is_negative (signed_word w)) (unsigned_abs (signed_word w))
