-- The code of the checkpoint words, for every number of value bits and check bits: an extended
-- Hamming code.
-- Source: choice of this project; the parities and places are those of R. W. Hamming's code with an
-- overall parity. A word of n positions is a number below 2^n, in which position p has the weight
-- 2^p.
use Rattle.std.specs.Prelude.{ℕ, zero, suc, ◌+◌, ◌-◌, ◌*◌, ◌%◌, ◌^◌, ◌<◌, ◌≡◌, Bool, true, ◌==◌, ◌&&◌, nat_lt, if◌then◌else◌, bit_xor, bit_and, Option, Some, None, refl}
use Rattle.std.specs.Int.{bit_at}
use Rattle.run_model.specs.declared.readings.Read.{Read}
use Rattle.run_model.specs.declared.readings.Read.TheVariants.{Clean, Corrected, Uncorrectable}

-- how many of the positions below n that pass the test hold a one
abbrev pub ones_where : (ℕ → Bool) → ℕ → ℕ → ℕ
ones_where test zero w = 0
ones_where test (suc n) w = (if test n then bit_at w n else 0) + ones_where test n w

abbrev pub anywhere : ℕ → Bool
anywhere p = true

-- how many of the positions below n hold a one
abbrev pub ones : ℕ → ℕ → ℕ
ones n w = ones_where anywhere n w

-- the positions whose number has the bit 2^j
abbrev pub with_bit : ℕ → ℕ → Bool
with_bit j p = bit_at p j == 1

-- ---- codewords

-- A codeword of n positions with c check bits: an even number of ones in all, and an even number
-- among the positions whose number has the bit 2^j, for each j below c - 1.
pub record IsCodeword (n c w : ℕ) : Type 0 where
  pub size : w < 2 ^ n
  pub all_even : ones n w % 2 ≡ 0
  pub each_even : (j : ℕ) → j < c - 1 → ones_where (with_bit j) n w % 2 ≡ 0

-- w with the position p changed
abbrev pub flip : ℕ → ℕ → ℕ
flip w p = bit_xor w (2 ^ p)

-- the positions below n at which two words differ
abbrev pub distance : ℕ → ℕ → ℕ → ℕ
distance n a b = ones n (bit_xor a b)

-- ---- the places of a value

-- position 0 and the positions 1, 2, 4, ..: where the lowest one of the number is cleared, nothing
-- is left
abbrev pub is_check : ℕ → Bool
is_check p = bit_and p (p - 1) == 0

-- how many positions below n hold a bit of the value
abbrev pub places : ℕ → ℕ
places zero = 0
places (suc n) = if is_check n then places n else places n + 1

-- the value that the positions below n hold, its least significant bit lowest
abbrev pub value_of : ℕ → ℕ → ℕ
value_of zero w = 0
value_of (suc n) w = if is_check n then value_of n w else bit_at w n * 2 ^ places n + value_of n w

-- ---- reading, as a relation

-- A codeword is clean. A word that differs in one position from a codeword is corrected there. Any
-- other is uncorrectable, a number not below 2^n too.
abbrev pub Reads : ℕ → ℕ → ℕ → Read → Type 0
Reads n c w (Clean v) = IsCodeword n c w × (v ≡ value_of n w)
Reads n c w (Corrected v p) =
    (¬ IsCodeword n c w) × (p < n) × IsCodeword n c (flip w p) × (v ≡ value_of n (flip w p))
Reads n c w Uncorrectable = (¬ IsCodeword n c w) × ((p : ℕ) → p < n → ¬ IsCodeword n c (flip w p))

-- ---- the same, as functions

-- the parities of the positions with the bits 2^0 to 2^(j - 1) are even
abbrev pub all_checks_even : ℕ → ℕ → ℕ → Bool
all_checks_even n zero w = true
all_checks_even n (suc j) w = (ones_where (with_bit j) n w % 2 == 0) && all_checks_even n j w

unfoldable pub is_codeword : ℕ → ℕ → ℕ → Bool
is_codeword n c w = nat_lt w (2 ^ n) && ((ones n w % 2 == 0) && all_checks_even n (c - 1) w)

-- the position below k whose change makes w a codeword of n positions, if there is one
abbrev pub wrong_position : ℕ → ℕ → ℕ → ℕ → Option ℕ
wrong_position n c w zero = None
wrong_position n c w (suc k) = if is_codeword n c (flip w k) then Some k else wrong_position n c w k

abbrev pub corrected_at : ℕ → ℕ → Option ℕ → Read
corrected_at n w None = Uncorrectable
corrected_at n w (Some p) = Corrected (value_of n (flip w p)) p

unfoldable pub read_of : ℕ → ℕ → ℕ → Read
read_of n c w =
    if is_codeword n c w then Clean (value_of n w)
    else corrected_at n w (wrong_position n c w n)

-- a value in its places below n, and zeros at the check positions
abbrev pub placed : ℕ → ℕ → ℕ
placed zero v = 0
placed (suc n) v = if is_check n then placed n v else bit_at v (places n) * 2 ^ n + placed n v

-- w, with a one at each check position 2^0 to 2^(j - 1) whose positions hold an odd number of ones
-- in `from`
abbrev pub with_checks : ℕ → ℕ → ℕ → ℕ → ℕ
with_checks n from zero w = w
with_checks n from (suc j) w =
    if ones_where (with_bit j) n from % 2 == 1 then flip (with_checks n from j w) (2 ^ j)
    else with_checks n from j w

-- w, with position 0 changed where it has an odd number of ones
abbrev pub with_parity : ℕ → ℕ → ℕ
with_parity n w = if ones n w % 2 == 0 then w else flip w 0

-- the word of n positions with c check bits that stores v
unfoldable pub encoded : ℕ → ℕ → ℕ → ℕ
encoded n c v = with_parity n (with_checks n (placed n v) (c - 1) (placed n v))

-- ---- the bits of a mask

-- the highest position below n that holds a one
abbrev pub highest : ℕ → ℕ → ℕ
highest zero w = 0
highest (suc n) w = if bit_at w n == 1 then n else highest n w

-- ---- worked values: 32 bits with 7 check bits, 64 bits with 8

pub narrow_zero : encoded 39 7 0 ≡ 0
unfolding encoded
narrow_zero = refl

pub narrow_one : encoded 39 7 1 ≡ 0x000000000F
unfolding encoded
narrow_one = refl

pub narrow_high : encoded 39 7 0x80000000 ≡ 0x4100000014
unfolding encoded
narrow_high = refl

pub wide_one : encoded 72 8 1 ≡ 0x00000000000000000F
unfolding encoded
wide_one = refl

pub wide_high : encoded 72 8 0x8000000000000000 ≡ 0x810000000000000017
unfolding encoded
wide_high = refl

pub clean : read_of 39 7 0x4100000014 ≡ Clean 0x80000000
unfolding read_of is_codeword
clean = refl

pub check_wrong : read_of 39 7 0x000000000E ≡ Corrected 1 0
unfolding read_of is_codeword
check_wrong = refl

pub value_wrong : read_of 39 7 0x0000000007 ≡ Corrected 1 3
unfolding read_of is_codeword
value_wrong = refl

pub two_wrong : read_of 39 7 0x0000000003 ≡ Uncorrectable
unfolding read_of is_codeword
two_wrong = refl

pub too_large : read_of 39 7 (2 ^ 39) ≡ Uncorrectable
unfolding read_of is_codeword
too_large = refl

pub wide_value_wrong : read_of 72 8 0x810000000000000016 ≡ Corrected 0x8000000000000000 0
unfolding read_of is_codeword
wide_value_wrong = refl

pub wide_two_wrong : read_of 72 8 0x000000000000000003 ≡ Uncorrectable
unfolding read_of is_codeword
wide_two_wrong = refl
