-- Whether a number stands in a list.
use Rattle.std.proofs.Common.{◌≡◌, ℕ, ◌+◌, Bool, true, false, eqb, ltb, cond, List, [], ◌∷◌, refl, ap, ◌∙◌, arith}
use Rattle.std.specs.Prelude.{◌||◌}
use Rattle.std.specs.List.{list_any}
use Rattle.std.proofs.lemmas.Bool.Decides.{nat_tests}
use Rattle.sparing.specs.Pools.{holds, stands}

one_more : (t : Bool) (n : ℕ) → (t || ltb 0 n) ≡ ltb 0 (cond t 1 0 + n)
one_more true n = grind (arith, nat_tests)
one_more false n = grind (arith, nat_tests)

pub found_stands : {X : Type 0} (f : X → ℕ) (k : ℕ) (xs : List X)
    → list_any (λ x. eqb (f x) k) xs ≡ stands f xs k
found_stands f k [] = refl
found_stands f k (x ∷ xs) =
    let rest = found_stands f k xs in
    ap (λ b. eqb (f x) k || b) rest ∙ one_more (eqb (f x) k) (holds f k xs)
