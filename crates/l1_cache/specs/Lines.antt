-- A direct-mapped cache of 64 lines. Line n of a storage is its 256 bytes from address 256 n on; in
-- the cache it has place n modulo 64, so a byte of it has place address modulo 16384.
-- Source: choice of this project.
use Rattle.std.specs.Prelude.{ℕ, ◌+◌, ◌-◌, ◌/◌, ◌%◌, ◌^◌, ◌≡◌, ◌≢◌, ◌<◌, min, List, length, slice_get, slice_set, Option, Some}

-- which line stands at each place, the bytes of the places one behind another, and how often a line
-- was filled
pub record Lines : Type 0 where
  pub numbers : List (Option ℕ)
  pub bytes : List ℕ
  pub fills : ℕ

-- the line of an address
abbrev pub line_of : ℕ → ℕ
line_of a = a / 256

-- a line stands at its place
abbrev pub HasLine : List (Option ℕ) → ℕ → Type 0
HasLine numbers n = slice_get numbers (n % 64) ≡ Some (Some n)

-- no line stands at its place
abbrev pub IsEmpty : List (Option ℕ) → Type 0
IsEmpty numbers = (n : ℕ) → ¬ HasLine numbers n

-- each byte of a line that is present is the storage's
unfoldable pub Coherent : Lines → List ℕ → Type 0
Coherent c s =
    (a : ℕ) → a < length s → HasLine c.numbers (line_of a) → slice_get c.bytes (a % 16384) ≡ slice_get s a

-- two storages have the same size, and the same bytes in each line but n
pub record DiffersInLine (n : ℕ) (s t : List ℕ) : Type 0 where
  pub size : length t ≡ length s
  pub others : (a : ℕ) → line_of a ≢ n → slice_get t a ≡ slice_get s a

-- the places after a line was fetched from
abbrev pub with_line : List (Option ℕ) → ℕ → List (Option ℕ)
with_line numbers n = slice_set numbers (n % 64) (Some n)

-- one fill more, up to the greatest number of 64 bits
abbrev pub filled : ℕ → ℕ
filled n = min (n + 1) (2 ^ 64 - 1)
