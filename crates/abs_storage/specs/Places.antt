-- Where the bytes of an operand lie.
-- Source: Principles of Operation, chapter on storage (addressing, prefixing). That an operand is
-- at most two pieces is a choice of this project.
use Rattle.std.specs.Prelude.{ℕ, ◌≡◌, ◌+◌, ◌-◌, ◌%◌, ◌^◌, ◌<◌, ◌≤◌, ◌==◌, nat_lt, min, Bool, true, false, not, if◌then◌else◌}
use Rattle.esa_model.specs.Access.{absolute}
use Rattle.abs_storage.specs.declared.pieces.Pieces.{Pieces}

-- the absolute address of an address in a mode
unfoldable pub place_at : ℕ → Bool → ℕ → ℕ
place_at prefix wide n = absolute prefix (if wide then n % 2 ^ 31 else n % 2 ^ 24)

-- where two pieces have byte k of the operand
abbrev pub place_in : Pieces → ℕ → ℕ
place_in p k = if nat_lt k p.first_len then p.first + k else p.second + (k - p.first_len)

-- the bytes in the page of the first byte, and the others
abbrev pub first_part : ℕ → ℕ → ℕ
first_part real len = min len (4096 - real % 4096)

abbrev pub second_part : ℕ → ℕ → ℕ
second_part real len = len - first_part real len

unfoldable pub cut_of : ℕ → Bool → ℕ → ℕ → Pieces
cut_of prefix wide real len = record {
  first = place_at prefix wide real;
  first_len = first_part real len;
  second =
      if second_part real len == 0 then 0 else place_at prefix wide (real + first_part real len);
  second_len = second_part real len;
}

-- whether a piece begins outside
abbrev pub begins_outside : ℕ → Pieces → Bool
begins_outside size p =
    if nat_lt p.first size
    then (if p.second_len == 0 then false else not (nat_lt p.second size))
    else true

-- the pieces have each byte of an operand, in its order
abbrev pub HaveBytes : ℕ → Bool → ℕ → ℕ → Pieces → Type 0
HaveBytes prefix wide real len p =
    (k : ℕ) → k < len → place_at prefix wide (real + k) ≡ place_in p k

-- each byte of an operand is inside a storage of so many bytes
abbrev pub IsInside : ℕ → Bool → ℕ → ℕ → ℕ → Type 0
IsInside prefix wide real len size = (k : ℕ) → k < len → place_at prefix wide (real + k) < size

-- one of them is not
abbrev pub HasByteOutside : ℕ → Bool → ℕ → ℕ → ℕ → Type 0
HasByteOutside prefix wide real len size =
    (k : ℕ) × (k < len) × (size ≤ place_at prefix wide (real + k))
