-- The first of a list that ascends has the lowest number.
use Rattle.std.proofs.Common.{◌≡◌, ℕ, zero, suc, ◌+◌, ◌<◌, ◌≤◌, Bool, true, false, cond, eqb, List, [], ◌∷◌, length, get_or, refl, sym, ap, ◌∙◌, arith}
use Rattle.std.specs.Prelude.{Some, None, nat_lt}
use Rattle.std.proofs.lemmas.Bool.Decides.{nat_tests}
use Rattle.run_model.specs.Cores.{lowest}
use Rattle.sparing.specs.Pools.{holds, stands, lowest_number, Ascends}

none_below : {X : Type 0} (f : X → ℕ) (j k : ℕ) (xs : List X) → j < k → Ascends f k xs
    → holds f j xs ≡ 0
none_below f j k [] l a = refl
none_below f j k (x ∷ xs) l a =
    let rest = none_below f j (f x + 1) xs (omega (arith, a.0)) a.2 in
    let not_this : eqb (f x) j ≡ false = let b : k ≤ f x = a.0 in grind (arith, nat_tests) in
    rw not_this (omega (arith, rest))

lowest_none : {X : Type 0} (f : X → ℕ) (k n : ℕ) → lowest (stands f []) k n ≡ None
lowest_none f k zero = refl
lowest_none f k (suc n) = lowest_none f (k + 1) n

lowest_by : {X : Type 0} (f : X → ℕ) (k n : ℕ) (x : X) (xs : List X) (t : Bool) → eqb (f x) k ≡ t
    → k ≤ f x → holds f k xs ≡ 0
    → (k + 1 ≤ f x → lowest (stands f (x ∷ xs)) (k + 1) n ≡ Some (f x))
    → cond (nat_lt 0 (cond t 1 0 + holds f k xs)) (Some k) (lowest (stands f (x ∷ xs)) (k + 1) n)
    ≡ Some (f x)
lowest_by f k n x xs true e low none rest =
    let same : k ≡ f x = grind (arith, nat_tests) in
    rw none (ap (λ q. Some q) same)
lowest_by f k n x xs false e low none rest =
    let above : k + 1 ≤ f x = grind (arith, nat_tests) in
    rw none (rest above)

lowest_some : {X : Type 0} (f : X → ℕ) (k n : ℕ) (x : X) (xs : List X) → k + n ≡ 16
    → Ascends f k (x ∷ xs) → lowest (stands f (x ∷ xs)) k n ≡ Some (f x)
lowest_some f k zero x xs e a = absurd (omega (arith, a.0, a.1, e))
lowest_some f k (suc n) x xs e a =
    let none = none_below f k (f x + 1) xs (omega (arith, a.0)) a.2 in
    lowest_by f k n x xs (eqb (f x) k) refl a.0 none
    (λ l. lowest_some f (k + 1) n x xs (omega (arith, e)) (l, a.1, a.2))

pub lowest_of_none : {X : Type 0} (f : X → ℕ) (xs : List X) → length xs < 1
    → lowest_number f xs ≡ None
unfolding lowest_number
lowest_of_none f [] l = lowest_none f 0 16
lowest_of_none f (x ∷ xs) l = absurd (omega (arith, l))

pub lowest_of_some : {X : Type 0} (f : X → ℕ) (x : X) (xs : List X) → Ascends f 0 xs
    → 0 < length xs → x ≡ get_or xs 0 x → lowest_number f xs ≡ Some (f x)
unfolding lowest_number
lowest_of_some f x [] a l e = absurd (omega (arith, l))
lowest_of_some f x (y ∷ ys) a l e =
    lowest_some f 0 16 y ys refl a ∙ ap (λ q. Some (f q)) (sym e)
