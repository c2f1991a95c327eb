-- An effect that stores no more bytes than its first operand has, and writes nothing to the console.
use Rattle.std.proofs.Common.{◌≡◌, ℕ, ◌≤◌, Bool, [], length, refl, arith, inr}
use Rattle.std.proofs.lemmas.List.FromFn.{length-range_with_len}
use Rattle.esa_model.specs.Access.{Operand, whole}
use Rattle.esa_model.specs.Line.{Effect, two}
use Rattle.row_frame.specs.Made.{Covers}

pub covered : (at len : ℕ) (fetch store : Bool) (second : Operand) (e : Effect)
    → length e.stored ≤ len → e.console_out ≡ [] → Covers (two (whole at len fetch store) second) e
covered at len fetch store second e h k =
    let offsets = length-range_with_len 0 len in
    record { short = omega (arith, h, offsets); store = λ p. refl; one = inr k }
