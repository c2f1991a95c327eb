-- PACK, UNPK and MVO: half-bytes of the second operand, counted from the right.
-- Source: Principles of Operation, chapter General Instructions: the operands are taken from the right, a
-- short second operand is filled with zeros (zoned ones in UNPK), and what does not fit is lost.
use Rattle.std.specs.Prelude.{ℕ, ◌+◌, ◌-◌, ◌*◌, ◌/◌, ◌%◌, ◌==◌, nat_lt, if◌then◌else◌, List, length, slice_index, map}
use Rattle.std.specs.List.{range_with_len}
use Rattle.esa_model.specs.Packed.{last}

-- the byte that stands so many places left of the last one; zero past the left end
abbrev pub byte_back : List ℕ → ℕ → ℕ
byte_back bytes j = if nat_lt j (length bytes) then slice_index bytes (length bytes - 1 - j) else 0

-- the same of half-bytes
abbrev pub half_back : List ℕ → ℕ → ℕ
half_back bytes k = if k % 2 == 0 then byte_back bytes (k / 2) % 16 else byte_back bytes (k / 2) / 16

abbrev pub exchanged : ℕ → ℕ
exchanged b = b % 16 * 16 + b / 16

-- PACK: the last byte's halves exchanged, then the right halves of the others
unfoldable pub packed_byte : List ℕ → ℕ → ℕ
packed_byte second j =
    if j == 0 then exchanged (byte_back second 0)
    else byte_back second (2 * j) % 16 * 16 + byte_back second (2 * j - 1) % 16

-- UNPK: the last byte's halves exchanged, then each half-byte with the zone F
unfoldable pub unpacked_byte : List ℕ → ℕ → ℕ
unpacked_byte second j = if j == 0 then exchanged (byte_back second 0) else 0xF0 + half_back second (j + 1)

-- MVO: all half-bytes, left of the last one of the first operand
unfoldable pub offset_byte : List ℕ → ℕ → ℕ → ℕ
offset_byte second kept j =
    if j == 0 then half_back second 0 * 16 + kept
    else half_back second (2 * j) * 16 + half_back second (2 * j - 1)

-- the byte of the result that stands so many places left of its last one
unfoldable pub moved_byte : ℕ → List ℕ → ℕ → ℕ → ℕ
moved_byte op second kept j =
    if op == 0xF2 then packed_byte second j
    else (if op == 0xF3 then unpacked_byte second j else offset_byte second kept j)

-- the n bytes whose places left of the last one are given
abbrev pub from_right : ℕ → (ℕ → ℕ) → List ℕ
from_right n byte = map (λ k. byte (n - 1 - k)) (range_with_len 0 n)

-- the first operand after F1 MVO, F2 PACK or F3 UNPK
unfoldable pub moved_halves : ℕ → List ℕ → List ℕ → List ℕ
moved_halves op first second = from_right (length first) (moved_byte op second (last first % 16))
