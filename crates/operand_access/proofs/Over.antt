-- The storage after one byte more.
use Rattle.std.proofs.Common.{◌≡◌, ℕ, suc, zero, ◌+◌, ◌<◌, ◌≤◌, List, [], ◌∷◌, ◌++◌, length, get_or, take, refl, sym, ap, ◌∙◌, arith}
use Rattle.std.specs.Prelude.{◌==◌, if◌then◌else◌, slice_set, slice_get, Some, None}
use Rattle.std.proofs.lemmas.Grind.{common_steps}
use Rattle.std.proofs.lemmas.List.{take_more}
use Rattle.std.proofs.lemmas.Option.{unwrap_or-slice_get, slice_get_past, slice_get_within, get_or_from_slice_get}
use Rattle.std.specs.Option.{unwrap_or}
use Rattle.esa_model.specs.declared.machine.Registers.{Registers}
use Rattle.esa_model.specs.Access.{written, place}

pub length-written : (r : Registers) (at : ℕ) (xs s : List ℕ) → length (written r at xs s) ≡ length s
length-written r at [] s = refl
length-written r at (x ∷ xs) s = length-written r (at + 1) xs (slice_set s (place r at) x) ∙ grind (arith, common_steps)

pub written-append : (r : Registers) (at : ℕ) (xs ys s : List ℕ) → written r at (xs ++ ys) s ≡ written r (at + length xs) ys (written r at xs s)
written-append r at [] ys s = let e : at + 0 ≡ at = omega arith in rw e refl
written-append r at (x ∷ xs) ys s =
    let e : at + 1 + length xs ≡ at + length (x ∷ xs) = omega arith in
    written-append r (at + 1) xs ys (slice_set s (place r at) x)
    ∙ ap (λ (k : ℕ). written r k ys (written r (at + 1) xs (slice_set s (place r at) x))) e

read_set : (s : List ℕ) (p a x : ℕ) → a < length s → get_or (slice_set s p x) a 0 ≡ (if p == a then x else get_or s a 0)
read_set s p a x h = grind (arith, common_steps)

pub over_more : (r : Registers) (at : ℕ) (xs s : List ℕ) (k a : ℕ) → k < length xs → a < length s
    → get_or (written r at (take (k + 1) xs) s) a 0 ≡ (if place r (at + k) == a then get_or xs k 0 else get_or (written r at (take k xs) s) a 0)
over_more r at xs s k a h inside =
    let before : List ℕ = written r at (take k xs) s in
    let long : length (take k xs) ≡ k = grind (arith, common_steps) in
    let same : written r at (take (k + 1) xs) s ≡ slice_set before (place r (at + k)) (get_or xs k 0) =
    ap (λ (ys : List ℕ). written r at ys s) (take_more xs k 0 h)
    ∙ (written-append r at (take k xs) (get_or xs k 0 ∷ []) s
    ∙ ap (λ (j : ℕ). slice_set before (place r (at + j)) (get_or xs k 0)) long) in
    ap (λ (ys : List ℕ). get_or ys a 0) same
    ∙ read_set before (place r (at + k)) a (get_or xs k 0) (omega (arith, length-written r at (take k xs) s))

pub over_end : (r : Registers) (at : ℕ) (xs s : List ℕ) (k a : ℕ) → length xs ≤ k → get_or (written r at (take k xs) s) a 0 ≡ get_or (written r at xs s) a 0
over_end r at xs s k a h =
    let whole : take k xs ≡ xs = grind (arith, common_steps) in
    rw whole refl

pub past : (s : List ℕ) (a : ℕ) → slice_get s a ≡ None → length s ≤ a
past [] a h = omega arith
past (x ∷ s) zero h = absurd cc
past (x ∷ s) (suc a) h = let i = past s a h in omega (arith, i)

pub outside_over : (r : Registers) (at a : ℕ) (xs s : List ℕ) → slice_get s a ≡ None → unwrap_or (slice_get (written r at xs s) a) 0 ≡ 0
outside_over r at a xs s h =
    let long = length-written r at xs s in
    let out = past s a h in
    let none : slice_get (written r at xs s) a ≡ None = slice_get_past (written r at xs s) a (omega (arith, long, out)) in
    rw none refl

pub inside_over : (r : Registers) (at a b v : ℕ) (xs s : List ℕ) → slice_get s a ≡ Some b
    → ((storage : List ℕ) → a < length storage → get_or storage a 0 ≡ b → v ≡ get_or (written r at xs storage) a 0)
    → unwrap_or (slice_get (written r at xs s) a) 0 ≡ v
inside_over r at a b v xs s h told =
    unwrap_or-slice_get (written r at xs s) a 0 ∙ sym (told s (slice_get_within s a b h) (get_or_from_slice_get s a b 0 h))
