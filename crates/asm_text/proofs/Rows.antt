-- The rows of the table have the numbers below 134.
use Rattle.std.proofs.Common.{◌≡◌, ℕ, ◌<◌, Some}
use Rattle.std.proofs.lemmas.Option.{slice_get-get_or}
use Rattle.esa_model.specs.Table.{rows, row_at, row_numbered}

pub row_is : (n : ℕ) → n < 134 → row_at n ≡ Some (row_numbered n)
unfolding row_at row_numbered
row_is n h = slice_get-get_or rows n _ h
