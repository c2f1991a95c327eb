-- Every text has a field.
use Rattle.std.proofs.Common.{ℕ, ◌<◌, List, length, arith}
use Rattle.std.proofs.lemmas.List.Splits.{length-slice_split}
use Rattle.run_model.specs.Script.{fields, is_blank}

pub some_field : (t : List ℕ) → 0 < length (fields t)
unfolding fields
some_field t = let e = length-slice_split is_blank t in omega arith
