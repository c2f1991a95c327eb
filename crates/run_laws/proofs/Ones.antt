-- How many ones a word has after exclusive or, and powers of two.
use Rattle.std.proofs.Common.{◌≡◌, ℕ, zero, suc, ◌+◌, ◌%◌, ◌^◌, ◌≤◌, ◌≢◌, subst, arith, bit_xor, inl, inr, refl}
use Rattle.std.specs.Int.{bit_at}
use Rattle.std.proofs.lemmas.Nat.Bits.{bit_at_xor, bit_at-zero, bit_at-pow_same, bit_at-pow_other}
use Rattle.std.proofs.lemmas.Bool.{cases_eq}
use Rattle.run_model.specs.Code.{ones}

sum_bits : (x y : ℕ) → (x + y) % 2 ≤ x + y
sum_bits x y = omega arith

pub ones-xor-le : (n a b : ℕ) → ones n (bit_xor a b) ≤ ones n a + ones n b
ones-xor-le zero a b = omega arith
ones-xor-le (suc n) a b =
    let r = ones-xor-le n a b in
    let s = sum_bits (bit_at a n) (bit_at b n) in
    rw (bit_at_xor a b n) (omega arith)

pub ones-zero : (n : ℕ) → ones n 0 ≡ 0
ones-zero zero = refl
ones-zero (suc n) = let r = ones-zero n in rw (bit_at-zero n) (omega arith)

ones-pow_above : (n p : ℕ) → n ≤ p → ones n (2 ^ p) ≡ 0
ones-pow_above zero p h = refl
ones-pow_above (suc n) p h =
    let ne : n ≢ p = omega arith in
    let r = ones-pow_above n p (omega arith) in
    rw (bit_at-pow_other p n ne) (omega arith)

pub ones-pow-le : (n p : ℕ) → ones n (2 ^ p) ≤ 1
ones-pow-le zero p = omega arith
ones-pow-le (suc n) p = elim (cases_eq n p) [
  | inl e ↦
      subst (λ k. ones (suc n) (2 ^ k) ≤ 1) e
      (let z = ones-pow_above n n (omega arith) in rw (bit_at-pow_same n) (omega arith))
  | inr ne ↦ let r = ones-pow-le n p in rw (bit_at-pow_other p n ne) (omega arith)
]
