-- Addresses as texts: six capital hexadecimal digits. Source: choice of this project.
use Rattle.std.specs.Prelude.{ℕ, ◌≡◌, ◌==◌, ◌&&◌, ◌||◌, Bool, List, length, Option, Some, None, if◌then◌else◌, codes, refl}
use Rattle.std.specs.Char.{is_ascii_digit}
use Rattle.std.specs.Int.{is_in_range}
use Rattle.std.specs.List.{list_all}
use Rattle.std.specs.Str.Parse.{digits_value}

-- 0 to 9, A to F
abbrev pub is_capital_digit : ℕ → Bool
is_capital_digit b = is_ascii_digit b || is_in_range 65 70 b

unfoldable pub address : List ℕ → Option ℕ
address text =
    if (length text == 6) && list_all is_capital_digit text
    then Some (digits_value 16 text)
    else None

-- ---- worked values

pub high_digits : address (codes "01FA0c") ≡ None
unfolding address
high_digits = refl

pub address_read : address (codes "01FA0C") ≡ Some 0x01FA0C
unfolding address
address_read = refl

pub five_digits : address (codes "1FA0C") ≡ None
unfolding address
five_digits = refl
