-- A function of the console that is called has a count of at most 256.
use Rattle.std.proofs.Common.{◌≡◌, ◌≤◌, ℕ, refl}
use Rattle.std.specs.Prelude.{Bool, true, false, Some, None, IfSome, ◌==◌, ◌||◌, if◌then◌else◌, nat_lt}
use Rattle.std.proofs.lemmas.Bool.{ltb-false}
use Rattle.esa_model.specs.ControlRows.{console_called}

of_tests : (low high writes reads : Bool) (count : ℕ) → (high ≡ false → count ≤ 256)
    → IfSome (if low || high then None else if writes then Some false else if reads then Some true else None)
    (λ r. count ≤ 256)
of_tests true high writes reads count h = record {}
of_tests false true writes reads count h = record {}
of_tests false false true reads count h = h refl
of_tests false false false true count h = h refl
of_tests false false false false count h = record {}

pub count_known : (function count : ℕ)
    → IfSome (console_called function count) (λ reads. count ≤ 256)
unfolding console_called
count_known function count =
    of_tests (nat_lt count 1) (nat_lt 256 count) (function == 0x100) (function == 0x104) count
    (λ e. ltb-false 256 count e)
