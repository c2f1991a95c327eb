-- Numbers as texts, and the numbers that texts read as.
-- Source: choice of this project. Decimals have no sign and no leading zero; hexadecimal letters are capitals.
use Rattle.std.specs.Prelude.{ℕ, zero, suc, ◌+◌, ◌/◌, ◌%◌, ◌^◌, ◌≡◌, Bool, ◌&&◌, ◌||◌, ◌==◌, not, nat_lt, nat_le, if◌then◌else◌, List, [], ◌∷◌, length, slice_index, Option, Some, None, codes, refl}
use Rattle.std.specs.Char.{is_ascii_digit}
use Rattle.std.specs.List.{list_all}
use Rattle.std.specs.Str.Parse.{digits_value}
-- The decimal text of a number below 10^64, which is also what a format string writes.
pub use Rattle.std.specs.Fmt.{decimal}
use Rattle.std.specs.Fmt.{digits}

-- the digit of a number below 16
abbrev pub hex_digit : ℕ → ℕ
hex_digit d = if nat_lt d 10 then 48 + d else 55 + d

-- the lowest so many hexadecimal digits of a number, the highest of them first
unfoldable pub hex_text : ℕ → ℕ → List ℕ
hex_text zero n = []
hex_text (suc k) n = hex_digit (n / 16 ^ k % 16) ∷ hex_text k n

-- digits, at least one, and none of them a zero that is not needed
unfoldable pub is_decimal : List ℕ → Bool
is_decimal t = (nat_lt 0 (length t) && list_all is_ascii_digit t) && ((length t == 1) || not (slice_index t 0 == 48))

-- the number of a decimal of any length
unfoldable pub number : List ℕ → Option ℕ
number t = if is_decimal t then Some (digits_value 10 t) else None

-- the same, where it is not above a greatest one
unfoldable pub number_up_to : ℕ → List ℕ → Option ℕ
number_up_to most t = if is_decimal t && nat_le (digits_value 10 t) most then Some (digits_value 10 t) else None

-- worked values
pub zero_digits : decimal 0 ≡ codes "0"
unfolding digits
zero_digits = refl

pub eight_digits : hex_text 8 0x8001000A ≡ codes "8001000A"
unfolding hex_text
eight_digits = refl

pub six_digits : hex_text 6 0xFF012345 ≡ codes "012345"
unfolding hex_text
six_digits = refl

pub leading_zero : number (codes "01") ≡ None
unfolding number is_decimal
leading_zero = refl

pub only_zero : number (codes "0") ≡ Some 0
unfolding number is_decimal
only_zero = refl

pub long_number : number (codes "1000000000000000000000") ≡ Some 1000000000000000000000
unfolding number is_decimal
long_number = refl

pub above : number_up_to 15 (codes "16") ≡ None
unfolding number_up_to is_decimal
above = refl

pub signed : number (codes "+1") ≡ None
unfolding number is_decimal
signed = refl
