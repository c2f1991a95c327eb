-- A line that is copied to its place, byte by byte.
use Rattle.std.specs.Prelude.{ℕ, ◌+◌, ◌*◌, ◌/◌, ◌%◌, ◌≡◌, ◌≢◌, ◌<◌, List, length, slice_get}

-- the first k bytes of line n are at its place, and other places have the bytes that they had
pub record Filling (k n : ℕ) (s before bytes : List ℕ) : Type 0 where
  pub copied : (j : ℕ) → j < k → slice_get bytes (n % 64 * 256 + j) ≡ slice_get s (n * 256 + j)
  pub others : (j : ℕ) → j / 256 ≢ n % 64 → slice_get bytes j ≡ slice_get before j
  pub size : length bytes ≡ length before
