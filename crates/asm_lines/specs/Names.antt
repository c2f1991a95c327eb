-- The names of operations, byte by byte and row by row.
use Rattle.std.specs.Prelude.{ℕ, ◌<◌, ◌==◌, ◌≡◌, Bool, false, nat_lt, if◌then◌else◌, List, length, slice_index}
use Rattle.byteorder.specs.Endian.{big_number}
use Rattle.esa_model.specs.Table.{row_numbered}

-- the byte at a place of a name, a blank past its end
abbrev pub six_byte : List ℕ → ℕ → ℕ
six_byte w k = if nat_lt k (length w) then slice_index w k else 32

-- the row of a number has a name
abbrev pub has_name : ℕ → ℕ → Bool
has_name name number = big_number 6 (row_numbered number).name == name

-- no row below a number has a name
pub record IsNew (name number : ℕ) : Type 0 where
  pub none : (k : ℕ) → k < number → has_name name k ≡ false
