-- The first place at which a test passes.
use Rattle.std.proofs.Common.{◌≡◌, ℕ, suc, ◌+◌, ◌<◌, ◌≤◌, Bool, true, false, not, cond, eqb, List, length, refl, arith}
use Rattle.std.specs.Prelude.{Some, None, nat_lt}
use Rattle.std.specs.Option.{unwrap_or}
use Rattle.std.specs.List.{position, position_or_len}
use Rattle.std.proofs.lemmas.Bool.Decides.{nat_tests}
use Rattle.std.proofs.lemmas.List.Sums.{prefix_len-le-length}
use Rattle.sparing.specs.Pools.{place_with}

pub one_more : (n : ℕ) → 1 + n ≡ suc n
one_more n = omega arith

place_by : (k n : ℕ) (t : Bool) → nat_lt k n ≡ t → k ≤ n → unwrap_or (cond t (Some k) None) n ≡ k
place_by k n true e h = refl
place_by k n false e h = grind (arith, nat_tests)

pub place_inside : {X : Type 0} (p : X → Bool) (xs : List X) → position_or_len p xs ≤ length xs
place_inside p xs = prefix_len-le-length (λ x. not (p x)) xs

-- the first place, or the end
pub place_is : {X : Type 0} (p : X → Bool) (xs : List X)
    → unwrap_or (position p xs) (length xs) ≡ position_or_len p xs
place_is p xs =
    let k = position_or_len p xs in
    place_by k (length xs) (nat_lt k (length xs)) refl (place_inside p xs)

place_some : (k n i : ℕ) (t : Bool) → nat_lt k n ≡ t → cond t (Some k) None ≡ Some i
    → (k ≡ i) × (i < n)
place_some k n i true e h =
    let same : k ≡ i = cc in
    let inside : i < n = grind (arith, nat_tests) in
    (same, inside)
place_some k n i false e h = absurd (cc)

place_none : (k n : ℕ) (t : Bool) → nat_lt k n ≡ t → cond t (Some k) None ≡ None → n ≤ k
place_none k n true e h = absurd (cc)
place_none k n false e h = grind (arith, nat_tests)

-- the first place with a number, or the end
abbrev pub first_with : {X : Type 0} → (X → ℕ) → ℕ → List X → ℕ
first_with f k xs = position_or_len (λ x. eqb (f x) k) xs

pub place_found : {X : Type 0} (f : X → ℕ) (k : ℕ) (xs : List X) (i : ℕ)
    → place_with f k xs ≡ Some i → (first_with f k xs ≡ i) × (i < length xs)
unfolding place_with
place_found f k xs i h =
    let at = first_with f k xs in
    place_some at (length xs) i (nat_lt at (length xs)) refl h

pub place_missed : {X : Type 0} (f : X → ℕ) (k : ℕ) (xs : List X) → place_with f k xs ≡ None
    → length xs ≤ first_with f k xs
unfolding place_with
place_missed f k xs h =
    let at = first_with f k xs in
    place_none at (length xs) (nat_lt at (length xs)) refl h
