-- Bytes that are no more than those of one operand lie in it.
use Rattle.std.proofs.Common.{◌≡◌, ◌≤◌, ℕ, length, refl, arith, inr}
use Rattle.std.specs.Prelude.{Bool, []}
use Rattle.std.proofs.lemmas.List.FromFn.{length-range_with_len}
use Rattle.esa_model.specs.Access.{whole}
use Rattle.esa_model.specs.Line.{Effect, one}
use Rattle.row_frame.specs.Made.{Covers}

pub covers_within : (at len : ℕ) (fetch store : Bool) (e : Effect)
    → length e.stored ≤ len → e.console_out ≡ [] → Covers (one (whole at len fetch store)) e
covers_within at len fetch store e short none =
    let all = length-range_with_len 0 len in
    record { short = omega (arith, all, short); store = λ h. refl; one = inr none }
