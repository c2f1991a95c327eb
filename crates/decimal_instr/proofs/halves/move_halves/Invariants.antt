use Rattle.std.proofs.Common.{◌≡◌, ℕ, ◌-◌, take}
use Rattle.std.specs.Prelude.{map}
use Rattle.std.specs.List.{range_with_len}
use Rattle.esa_model.specs.Halves.{moved_byte}
use Rattle.decimal_instr.proofs.halves.move_halves.Given as goal

abbrev pub invariant-loop-k : goal.invariant-loop-k
invariant-loop-k l =
    let byte : ℕ → ℕ = λ k. moved_byte l.op l.second l.kept (l.n - 1 - k) in
    take l.k l.first ≡ map byte (range_with_len 0 l.k)
