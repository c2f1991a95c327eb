-- The operand that a combination of two operands stores, byte by byte.
use Rattle.std.proofs.Common.{◌≡◌, ℕ, zero, suc, ◌<◌, List, [], ◌∷◌, length, get_or, ap, refl, arith}
use Rattle.std.proofs.lemmas.List.{ext_get_or}
use Rattle.esa_model.specs.Moves.{combined, merged}

pub length-merged : (op : ℕ) (first second : List ℕ)
    → length (merged op first second) ≡ length first
length-merged op [] second = refl
length-merged op (a ∷ first) [] = refl
length-merged op (a ∷ first) (b ∷ second) = ap suc (length-merged op first second)

pub get_or-merged : (op : ℕ) (first second : List ℕ) (k : ℕ) → k < length first
    → length first ≡ length second
    → get_or (merged op first second) k 0 ≡ combined op (get_or first k 0) (get_or second k 0)
get_or-merged op [] second k h e = absurd (omega arith)
get_or-merged op (a ∷ first) [] k h e = absurd (omega arith)
get_or-merged op (a ∷ first) (b ∷ second) zero h e = refl
get_or-merged op (a ∷ first) (b ∷ second) (suc k) h e =
    get_or-merged op first second k (omega arith) (omega arith)

pub merged_is : (op : ℕ) (first second now : List ℕ) → length first ≡ length second
    → length now ≡ length first
    → ((k : ℕ) → k < length first
    → get_or now k 0 ≡ combined op (get_or first k 0) (get_or second k 0))
    → now ≡ merged op first second
merged_is op first second now e size each =
    let l = length-merged op first second in
    ext_get_or 0 now (merged op first second) (omega arith) (λ k h.
    let g = get_or-merged op first second k (omega arith) e in
    let d = each k (omega arith) in
    omega arith)
