-- No number stands in a pool twice, through each call.
use Rattle.std.proofs.Common.{◌≡◌, ℕ, ◌+◌, ◌≤◌, Bool, true, false, cond, eqb, List, [], ◌∷◌, subst, refl, arith}
use Rattle.std.proofs.lemmas.Bool.Decides.{nat_tests}
use Rattle.sparing.specs.Pools.{holds, put, Apart, TakenOut}
use Rattle.sparing.proofs.Puts.{holds_put}

-- one more, of number n, is counted at k
one_by : (n k xs ys : ℕ) (t : Bool) → eqb n k ≡ t → (n ≡ k → xs + ys ≡ 0) → xs + ys ≤ 1
    → cond t 1 0 + (xs + ys) ≤ 1
one_by n k xs ys true e none few = let z = none (grind (arith, nat_tests)) in omega arith
one_by n k xs ys false e none few = omega arith

both_none : {S F : Type 0} (f : S → ℕ) (g : F → ℕ) (n k : ℕ) (xs : List S) (ys : List F)
    → holds f n xs ≡ 0 → holds g n ys ≡ 0 → n ≡ k → holds f k xs + holds g k ys ≡ 0
both_none f g n k xs ys a b e =
    subst (λ q. holds f q xs + holds g q ys ≡ 0) e (omega (arith, a, b))

pub apart_none : {S F : Type 0} (f : S → ℕ) (g : F → ℕ) → Apart f g [] []
apart_none f g = record { once = λ k. omega arith }

pub apart_put : {S F : Type 0} (f : S → ℕ) (g : F → ℕ) (x : S) (xs : List S) (ys : List F)
    → Apart f g xs ys → holds f (f x) xs ≡ 0 → holds g (f x) ys ≡ 0 → Apart f g (put f x xs) ys
apart_put f g x xs ys a s z = record {
  once = λ k.
      let both = both_none f g (f x) k xs ys s z in
      let more = one_by (f x) k (holds f k xs) (holds g k ys) (eqb (f x) k) refl both (a.once k) in
      let is = holds_put f k x xs in
      omega (arith, more, is);
}

pub apart_fence : {S F : Type 0} (f : S → ℕ) (g : F → ℕ) (y : F) (xs : List S) (ys : List F)
    → Apart f g xs ys → holds f (g y) xs ≡ 0 → holds g (g y) ys ≡ 0 → Apart f g xs (put g y ys)
apart_fence f g y xs ys a s z = record {
  once = λ k.
      let both = both_none f g (g y) k xs ys s z in
      let more = one_by (g y) k (holds f k xs) (holds g k ys) (eqb (g y) k) refl both (a.once k) in
      let is = holds_put g k y ys in
      omega (arith, more, is);
}

pub apart_tail : {S F : Type 0} (f : S → ℕ) (g : F → ℕ) (x : S) (xs : List S) (ys : List F)
    → Apart f g (x ∷ xs) ys → Apart f g xs ys
apart_tail f g x xs ys a = record { once = λ k. let old = a.once k in omega (arith, old) }

pub apart_taken : {S F : Type 0} (f : S → ℕ) (g : F → ℕ) (k : ℕ) (y : F) (xs : List S)
    (before after : List F) → Apart f g xs before → TakenOut g k y before after
    → Apart f g xs after
apart_taken f g k y xs before after a out = record {
  once = λ n.
      let old : holds f n xs + holds g n (put g y after) ≤ 1 =
      subst (λ q. holds f n xs + holds g n q ≤ 1) out.whole (a.once n) in
      let is = holds_put g n y after in
      omega (arith, old, is);
}
