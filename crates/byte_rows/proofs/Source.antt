-- The bytes of an edit's source are the first ones of the 256 that it might use.
use Rattle.std.proofs.Common.{ℕ, ◌+◌, ◌≤◌, ◌∙◌, List, sym, arith}
use Rattle.std.proofs.lemmas.List.FromFn.{get_or-map-range_with_len}
use Rattle.esa_model.specs.declared.machine.Registers.{Registers}
use Rattle.esa_model.specs.Access.{byte, bytes}
use Rattle.esa_model.specs.Edit.{SameUpTo}

pub fewer : (r : Registers) (s : List ℕ) (at n : ℕ) → n ≤ 256
    → SameUpTo n (bytes r s at n) (bytes r s at 256)
unfolding bytes
fewer r s at n few k lt =
    let f = λ (j : ℕ). byte r s (at + j) in
    get_or-map-range_with_len f 0 n k k 0 lt (omega arith)
    ∙ sym (get_or-map-range_with_len f 0 256 k k 0 (omega (arith, few, lt)) (omega arith))
