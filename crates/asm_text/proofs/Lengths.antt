-- How many digits a number has.
use Rattle.std.proofs.Common.{ℕ, ◌<◌, ◌≤◌, length, arith}
use Rattle.std.proofs.lemmas.Fmt.{length-decimal-le}
use Rattle.run_model.specs.Numbers.{decimal}

pub five_digits : (n : ℕ) → n < 65536 → length (decimal n) ≤ 5
five_digits n h = length-decimal-le 5 n (omega arith) (omega arith) (omega arith)

pub three_digits : (n : ℕ) → n < 256 → length (decimal n) ≤ 3
three_digits n h = length-decimal-le 3 n (omega arith) (omega arith) (omega arith)
