-- The operations on bytes of a word under a mask, and COMPARE AND SWAP.
-- Source: Principles of Operation, chapter on general instructions; the names of the instructions stand at each row.
use Rattle.std.specs.Prelude.{ℕ, ◌+◌, ◌-◌, ◌*◌, ◌/◌, ◌%◌, ◌^◌, nat_lt, ◌==◌, ◌&&◌, if◌then◌else◌, bit_and, List, [], ◌∷◌, Bool, length, take, map, filter}
use Rattle.std.specs.List.{list_all}
use Rattle.esa_model.specs.declared.machine.Value.{Value}
use Rattle.esa_model.specs.WordRows.{value, plain}

-- ---- a mask of four bits, from the left

-- TM: the selected bits of a byte all zero or none selected, mixed, all ones
unfoldable pub test_under_mask_code : ℕ → ℕ → ℕ
test_under_mask_code byte mask = let ones = bit_and byte mask in if ones == 0 then 0 else if ones == mask then 3 else 1

-- byte k of a word, from the left, and the word with another one there
abbrev pub byte_of : ℕ → ℕ → ℕ
byte_of w k = w / 256 ^ (3 - k) % 256

abbrev pub with_byte : ℕ → ℕ → ℕ → ℕ
with_byte w k b = w - byte_of w k * 256 ^ (3 - k) + b * 256 ^ (3 - k)

-- IC
unfoldable pub insert_character_row : ℕ → ℕ → Value
insert_character_row a b = plain (with_byte a 3 b)

-- the bytes that a mask selects, from the left
abbrev pub places : ℕ → List ℕ
places mask = filter (λ k. mask / 2 ^ (3 - k) % 2 == 1) (0 ∷ 1 ∷ 2 ∷ 3 ∷ [])

-- STCM: the selected bytes of a word
unfoldable pub selected : ℕ → ℕ → List ℕ
selected a mask = map (byte_of a) (places mask)

-- the word with successive bytes at some places
abbrev pub inserted : ℕ → List ℕ → List ℕ → ℕ
inserted a [] bytes = a
inserted a (k ∷ ks) [] = a
inserted a (k ∷ ks) (b ∷ bytes) = inserted (with_byte a k b) ks bytes

abbrev pub is_zero : ℕ → Bool
is_zero b = b == 0

-- 0 where the inserted bits are zero or none is selected, 1 where the first of them is one, 2 otherwise
abbrev pub inserted_code : List ℕ → ℕ
inserted_code [] = 0
inserted_code (b ∷ bytes) = if list_all is_zero (b ∷ bytes) then 0 else if nat_lt b 128 then 2 else 1

-- ICM, from as many bytes as the mask selects, or more
unfoldable pub insert_under_mask_row : ℕ → ℕ → List ℕ → Value
insert_under_mask_row a mask bytes =
    value (inserted a (places mask) bytes) 0 (inserted_code (take (length (places mask)) bytes)) 0

-- the comparison of two lists of bytes of one length
abbrev pub order_of_bytes : List ℕ → List ℕ → ℕ
order_of_bytes [] bs = 0
order_of_bytes (a ∷ as') [] = 0
order_of_bytes (a ∷ as') (b ∷ bs) = if a == b then order_of_bytes as' bs else if nat_lt a b then 1 else 2

-- CLM, against as many bytes as the mask selects, or more
unfoldable pub compare_under_mask_code : ℕ → ℕ → List ℕ → ℕ
compare_under_mask_code a mask bytes = order_of_bytes (selected a mask) bytes

-- ---- compare and swap

-- CS: after it R1 has the operand's word, which at code 0 is its own; at code 0 R3 is stored
unfoldable pub compare_and_swap_row : ℕ → ℕ → Value
compare_and_swap_row a b = value b 0 (if a == b then 0 else 1) 0

-- CDS: the same of a pair
unfoldable pub compare_double_and_swap_row : ℕ → ℕ → ℕ → ℕ → Value
compare_double_and_swap_row a low b b_low = value b b_low (if a == b && low == b_low then 0 else 1) 0
