-- Names and numbers of an assembler source.
-- Source: choice of this project. A name has 1 to 8 capital letters and digits, a letter first; numbers are
-- decimals without a zero that is not needed, or X'h' with 1 to 8 hexadecimal digits.
use Rattle.std.specs.Prelude.{ℕ, ◌+◌, ◌-◌, ◌==◌, ◌&&◌, ◌||◌, Bool, nat_lt, nat_le, min, if◌then◌else◌, List, [], ◌∷◌, length, take, drop, slice_index, Option, Some, None}
use Rattle.std.specs.Char.{is_ascii_digit}
use Rattle.std.specs.List.{list_all}
use Rattle.std.specs.Str.Parse.{digits_value}
use Rattle.byteorder.specs.Endian.{big_number}
use Rattle.run_model.specs.Numbers.{is_decimal}

abbrev pub within : ℕ → ℕ → ℕ → Bool
within low high b = nat_le low b && nat_le b high

-- ---- names, as the number of their eight EBCDIC bytes

abbrev pub is_capital : ℕ → Bool
is_capital b = within 65 90 b

abbrev pub is_name_byte : ℕ → Bool
is_name_byte b = is_capital b || is_ascii_digit b

unfoldable pub is_name : List ℕ → Bool
is_name w =
    within 1 8 (length w) && (is_capital (slice_index w 0) && list_all is_name_byte w)

-- digits are from X'F0' on, letters from X'C1', X'D1' and X'E2' on
abbrev pub ebcdic : ℕ → ℕ
ebcdic b =
    if nat_lt b 65 then b + 192
    else (if nat_lt b 74 then b + 128 else (if nat_lt b 83 then b + 135 else b + 143))

-- the byte at a place of a name, blank past its end
abbrev pub name_byte : List ℕ → ℕ → ℕ
name_byte w k = if nat_lt k (length w) then ebcdic (slice_index w k) else 64

abbrev pub name_bytes : List ℕ → List ℕ
name_bytes w =
    name_byte w 0 ∷ name_byte w 1 ∷ name_byte w 2 ∷ name_byte w 3 ∷ name_byte w 4 ∷ name_byte w 5
    ∷ name_byte w 6 ∷ name_byte w 7 ∷ []

unfoldable pub name_of : List ℕ → Option ℕ
name_of w = if is_name w then Some (big_number 8 (name_bytes w)) else None

-- ---- numbers

-- what is above 4,294,967,295 is 4,294,967,296, which no range has
abbrev pub capped : ℕ → ℕ
capped n = min n 4294967296

abbrev pub is_hex_byte : ℕ → Bool
is_hex_byte b = is_ascii_digit b || within 65 70 b

-- the bytes between a letter with a quote and the last byte
abbrev pub quoted : List ℕ → List ℕ
quoted w = take (length w - 3) (drop 2 w)

-- the text begins with these two bytes and ends with the third, and something stands between them
abbrev pub is_enclosed : ℕ → ℕ → ℕ → List ℕ → Bool
is_enclosed letter left right w =
    nat_lt 3 (length w)
    && ((slice_index w 0 == letter)
    && ((slice_index w 1 == left) && (slice_index w (length w - 1) == right)))

-- of the form X'..', for the letter X
abbrev pub is_quoted : ℕ → List ℕ → Bool
is_quoted letter w = is_enclosed letter 39 39 w

abbrev pub is_hexadecimal : List ℕ → Bool
is_hexadecimal w = is_quoted 88 w && (nat_le (length w) 11 && list_all is_hex_byte (quoted w))

unfoldable pub number_of : List ℕ → Option ℕ
number_of w =
    if is_decimal w then Some (capped (digits_value 10 w))
    else (if is_hexadecimal w then Some (digits_value 16 (quoted w)) else None)
