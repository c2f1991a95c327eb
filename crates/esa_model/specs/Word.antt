-- Numbers of 32 bits, as natural numbers below 2^32, and program codes.
-- Source: Principles of Operation, chapter on general instructions (signed and unsigned binary arithmetic).
use Rattle.std.specs.Prelude.{ℕ, ◌+◌, ◌-◌, ◌/◌, ◌%◌, ◌^◌, nat_lt, ◌==◌, if◌then◌else◌, ℤ, pos, ◌-ℤ◌, int_lt, List, [], ◌∷◌}

-- a word read as a signed number
abbrev pub signed : ℕ → ℤ
signed w = if nat_lt w (2 ^ 31) then pos w else pos w -ℤ pos (2 ^ 32)

-- bits from to to of a word, numbered from the left
abbrev pub bits : ℕ → ℕ → ℕ → ℕ
bits w from to = w / 2 ^ (31 - to) % 2 ^ (to - from + 1)

-- the condition code of a signed result: zero, negative, positive, or overflow
abbrev pub arith : ℤ → ℕ
arith z =
    if int_lt z (pos 0 -ℤ pos (2 ^ 31)) then 3 else
    if int_lt (pos (2 ^ 31 - 1)) z then 3 else
    if int_lt z (pos 0) then 1 else
    if int_lt (pos 0) z then 2 else 0

-- the first code that is not zero, or zero
abbrev pub first_code : List ℕ → ℕ
first_code [] = 0
first_code (c ∷ cs) = if c == 0 then first_code cs else c
