-- What the code computes: the number whose bits are the parities.
use Rattle.std.specs.Prelude.{ℕ, zero, suc, ◌+◌, ◌*◌, ◌%◌, ◌^◌, ◌==◌, if◌then◌else◌, bit_xor, List, [], ◌∷◌}
use Rattle.std.specs.Int.{bit_at}
use Rattle.run_model.specs.Code.{ones, ones_where, with_bit, flip}

-- the numbers of the positions below n that hold a one, combined by exclusive or
abbrev pub syndrome : ℕ → ℕ → ℕ
syndrome zero w = 0
syndrome (suc n) w = bit_xor (if bit_at w n == 1 then n else 0) (syndrome n w)

-- the parity of all positions below 128, and of those with the bit 2^j
unfoldable pub parity : ℕ → ℕ
parity w = ones 128 w % 2

unfoldable pub check_parity : ℕ → ℕ → ℕ
check_parity j w = ones_where (with_bit j) 128 w % 2

-- the parities of the positions with the bits 2^0 to 2^(j - 1), as one number
abbrev pub parities : ℕ → ℕ → ℕ
parities zero w = 0
parities (suc j) w = check_parity j w * 2 ^ j + parities j w

-- the positions below n with the bit 2^j, as a mask
abbrev pub mask : ℕ → ℕ → ℕ
mask zero j = 0
mask (suc n) j = bit_at n j * 2 ^ n + mask n j

unfoldable pub check_mask : ℕ → ℕ
check_mask j = mask 128 j

-- these masks for j = 0 to 6
abbrev pub check_masks : List ℕ
check_masks =
    0xAAAAAAAAAAAAAAAAAAAAAAAAAAAAAAAA
    ∷ 0xCCCCCCCCCCCCCCCCCCCCCCCCCCCCCCCC
    ∷ 0xF0F0F0F0F0F0F0F0F0F0F0F0F0F0F0F0
    ∷ 0xFF00FF00FF00FF00FF00FF00FF00FF00
    ∷ 0xFFFF0000FFFF0000FFFF0000FFFF0000
    ∷ 0xFFFFFFFF00000000FFFFFFFF00000000
    ∷ 0xFFFFFFFFFFFFFFFF0000000000000000
    ∷ []

-- w with the check position 2^i changed for each bit i below j that s has
abbrev pub set_checks : ℕ → ℕ → ℕ → ℕ
set_checks zero s w = w
set_checks (suc j) s w = if bit_at s j == 1 then flip (set_checks j s w) (2 ^ j) else set_checks j s w
