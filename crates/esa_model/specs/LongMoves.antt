-- The units of MVCL and CLCL. Source: Principles of Operation, chapter on general instructions (MOVE LONG, COMPARE
-- LOGICAL LONG); that a unit takes at most 256 places, and that a destructive move leaves its registers, are choices of
-- this project.
use Rattle.std.specs.Prelude.{ℕ, zero, suc, ◌+◌, ◌-◌, ◌/◌, ◌%◌, ◌^◌, Bool, true, false, ◌&&◌, ◌==◌, nat_lt, nat_le, min, max, if◌then◌else◌, List, slice_index, slice_set, Option, Some, None}
use Rattle.esa_model.specs.declared.long_operands.LongOperands.{LongOperands}
use Rattle.esa_model.specs.declared.long_operands.MoveUnit.{MoveUnit}
use Rattle.esa_model.specs.declared.long_operands.CompareUnit.{CompareUnit}

-- one more than the last address of the mode
abbrev pub wrap : Bool → ℕ
wrap wide = if wide then 2147483648 else 16777216

-- ---- registers

-- what the registers R1, R1 + 1, R2 and R2 + 1 say: addresses, lengths in bits 8-31, the pad byte in bits 0-7 of R2 + 1
unfoldable pub long_operands : List ℕ → ℕ → ℕ → Bool → LongOperands
long_operands general r1 r2 wide = record {
  to = slice_index general r1;
  to_len = slice_index general (r1 + 1) % 2 ^ 24;
  from = slice_index general r2;
  from_len = slice_index general (r2 + 1) % 2 ^ 24;
  pad = slice_index general (r2 + 1) / 2 ^ 24;
  wide = wide;
}

-- The general registers after a unit that takes `first` bytes of the first and `second` bytes of the second operand:
-- the addresses advance, and the bits that the mode does not use become zero; the lengths fall, and bits 0-7 of their
-- registers stay. Each is made of the values before the unit, so a pair that both operands name advances once.
unfoldable pub after_unit : List ℕ → ℕ → ℕ → Bool → ℕ → ℕ → List ℕ
after_unit general r1 r2 wide first second =
    slice_set (slice_set (slice_set (slice_set general
    r1 ((slice_index general r1 + first) % wrap wide))
    (r1 + 1) (slice_index general (r1 + 1) - first))
    r2 ((slice_index general r2 + second) % wrap wide))
    (r2 + 1) (slice_index general (r2 + 1) - second)

-- ---- MVCL

-- the first address less the second, modulo the wrap
abbrev pub gap : LongOperands → ℕ
gap m = (m.to % wrap m.wide + (wrap m.wide - m.from % wrap m.wide)) % wrap m.wide

-- a byte of the second operand would be fetched after it was stored into
abbrev pub is_destructive : LongOperands → Bool
is_destructive m = nat_lt 0 (gap m) && nat_lt (gap m) (min m.to_len m.from_len)

-- 0 where the lengths are equal, 1 where the first is lower, 2 where it is higher
abbrev pub length_code : ℕ → ℕ → ℕ
length_code a b = if a == b then 0 else (if nat_lt a b then 1 else 2)

-- A unit stores the least of 256 and the first length, from the second operand as far as that goes and then pad bytes.
-- It is the last where nothing of the first operand is left. A destructive move stores nothing.
unfoldable pub move_row : LongOperands → MoveUnit
move_row m =
    if is_destructive m then record { copied = 0; padded = 0; cc = Some 3; destructive = true }
    else record {
      copied = min (min 256 m.to_len) m.from_len;
      padded = min 256 m.to_len - min (min 256 m.to_len) m.from_len;
      cc = if nat_le m.to_len 256 then Some (length_code m.to_len m.from_len) else None;
      destructive = false;
    }

-- ---- CLCL

-- the byte at a place of an operand of `len` bytes that pad bytes follow
abbrev pub padded_byte : List ℕ → ℕ → ℕ → ℕ → ℕ
padded_byte bytes len pad i = if nat_lt i len then slice_index bytes i else pad

-- how many of the first n places are equal before the first unequal one
abbrev pub equal_places : (ℕ → ℕ) → (ℕ → ℕ) → ℕ → ℕ
equal_places f g zero = 0
equal_places f g (suc n) = if (equal_places f g n == n) && (f n == g n) then n + 1 else equal_places f g n

-- the places of a unit
abbrev pub places : LongOperands → ℕ
places c = min 256 (max c.to_len c.from_len)

abbrev pub first_byte : List ℕ → LongOperands → ℕ → ℕ
first_byte first c i = padded_byte first c.to_len c.pad i

abbrev pub second_byte : List ℕ → LongOperands → ℕ → ℕ
second_byte second c i = padded_byte second c.from_len c.pad i

abbrev pub same_places : List ℕ → List ℕ → LongOperands → ℕ
same_places first second c = equal_places (first_byte first c) (second_byte second c) (places c)

-- unequal bytes x and y at the place p decide; where all places were equal the unit is the last if none is left
abbrev pub unit_code : ℕ → ℕ → ℕ → LongOperands → Option ℕ
unit_code p x y c =
    if nat_lt p (places c) then Some (if nat_lt x y then 1 else 2)
    else (if nat_le (max c.to_len c.from_len) 256 then Some 0 else None)

-- a unit over the first bytes of both operands, of each as many as the least of 256 and its length
unfoldable pub compare_row : List ℕ → List ℕ → LongOperands → CompareUnit
compare_row first second c =
    let p = same_places first second c in
    record { equal = p; cc = unit_code p (first_byte first c p) (second_byte second c p) c }
