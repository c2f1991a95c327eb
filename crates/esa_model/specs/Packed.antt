-- Packed decimal fields as signed whole numbers of any size.
-- Source: Principles of Operation, chapter Decimal Instructions (formats and signs).
use Rattle.std.specs.Prelude.{ℕ, zero, suc, ◌+◌, ◌-◌, ◌*◌, ◌/◌, ◌%◌, ◌^◌, Bool, not, ◌&&◌, ◌||◌, ◌==◌, nat_lt, nat_le, if◌then◌else◌, List, [], ◌∷◌, ◌++◌, length, take, slice_index, ℤ, pos, neg_ℤ, unsigned_abs}
use Rattle.std.specs.Int.{is_negative}
use Rattle.std.specs.List.{list_all}

-- a byte of two digits, as a number
abbrev pub pair : ℕ → ℕ
pair b = b / 16 * 10 + b % 16

abbrev pub is_pair : ℕ → Bool
is_pair b = nat_lt (b / 16) 10 && nat_lt (b % 16) 10

abbrev pub all_pairs : List ℕ → Bool
all_pairs bs = list_all is_pair bs

-- bytes of two digits each, as a number
abbrev pub body : List ℕ → ℕ
body [] = 0
body (b ∷ bs) = pair b * 100 ^ length bs + body bs

abbrev pub front : List ℕ → List ℕ
front f = take (length f - 1) f

abbrev pub last : List ℕ → ℕ
last f = slice_index f (length f - 1)

-- the last half-byte is the sign: A, C, E, F are plus, B and D minus
abbrev pub is_sign : ℕ → Bool
is_sign half = nat_le 10 half

abbrev pub is_minus : ℕ → Bool
is_minus half = (half == 11) || (half == 13)

-- a field without a bad digit or a bad sign
abbrev pub is_packed : List ℕ → Bool
is_packed f = all_pairs (front f) && (nat_lt (last f / 16) 10 && is_sign (last f % 16))

abbrev pub magnitude_of : List ℕ → ℕ
magnitude_of f = body (front f) * 10 + last f / 16

abbrev pub is_negative_field : List ℕ → Bool
is_negative_field f = is_minus (last f % 16)

-- the whole number of a sign and a magnitude; zero has no sign there
abbrev pub whole : Bool → ℕ → ℤ
whole negative m = if negative then neg_ℤ (pos m) else pos m

abbrev pub value_of : List ℕ → ℤ
value_of f = whole (is_negative_field f) (magnitude_of f)

-- the signs that are written are C and D
abbrev pub sign_code : Bool → ℕ
sign_code negative = if negative then 13 else 12

-- the low digits of m in n bytes, two in each
abbrev pub pairs : ℕ → ℕ → List ℕ
pairs zero m = []
pairs (suc n) m = pairs n (m / 100) ++ (m % 100 / 10 * 16 + m % 10) ∷ []

-- the field of n bytes that holds the low digits of m and this sign
unfoldable pub written : ℕ → Bool → ℕ → List ℕ
written n negative m = pairs (n - 1) (m / 10) ++ (m % 10 * 16 + sign_code negative) ∷ []

-- the magnitudes that n bytes hold are below this
abbrev pub limit : ℕ → ℕ
limit n = 10 ^ (2 * n - 1)

-- a decimal value keeps 31 digits; the others are lost
abbrev pub kept : ℕ → ℕ
kept m = m % 10 ^ 31

abbrev pub is_lost : ℕ → Bool
is_lost m = nat_le (10 ^ 31) m

-- the sign of a product or quotient, by algebra
abbrev pub differ : Bool → Bool → Bool
differ a b = if a then not b else b

-- a shift by powers of ten, to the left where it is not negative.
-- To the right the rounding digit is added to the last digit that is lost
abbrev pub shifted : ℕ → ℤ → ℕ → ℕ
shifted m by round =
    if is_negative by then (m / 10 ^ (unsigned_abs by - 1) + round) / 10 else m * 10 ^ unsigned_abs by
