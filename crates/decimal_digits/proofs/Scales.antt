-- Shifts to the left.
use Rattle.std.proofs.Common.{◌≡◌, ℕ, zero, suc, ◌+◌, ◌*◌, ◌/◌, ◌%◌, ◌^◌, ◌<◌, ◌≤◌, sym, ◌∙◌, ap, arith, leb, inl, inr}
use Rattle.std.proofs.lemmas.Bool.Decides.{nat_tests}
use Rattle.std.proofs.Math.Nat.{pow-suc, pow-le-pow_right, mul-le-mul_left}
use Rattle.std.proofs.lemmas.Nat.{div-add-mod', mod_below, mod-mul-add, pow-add}
use Rattle.std.proofs.lemmas.Bool.{cases_lt}

pub tens_pos : (k : ℕ) → 0 < 10 ^ k
tens_pos zero = omega arith
tens_pos (suc k) = let r = tens_pos k in rw (pow-suc 10 k) (omega arith)

pub tens_le : (k n : ℕ) → k ≤ n → 10 ^ k ≤ 10 ^ n
tens_le k n h = let p : 0 < 10 = omega arith in pow-le-pow_right p h

pub tens_split : (j k : ℕ) → j + k ≡ 31 → 10 ^ j * 10 ^ k ≡ 10 ^ 31
tens_split j k e = sym (pow-add 10 j k) ∙ ap (λ i. 10 ^ i) e

pub mod_scaled : (m j k : ℕ) → 0 < j → 0 < k → m % j * k ≡ m * k % (j * k)
mod_scaled m j k jp kp =
    let d = div-add-mod' m j in
    let l = mul-le-mul_left k (mod_below m j jp) in
    let e : (m / j * j + m % j) * k ≡ m * k = ap (λ x. x * k) d in
    let whole : m * k ≡ m / j * (j * k) + m % j * k = omega arith in
    sym (ap (λ x. x % (j * k)) whole ∙ mod-mul-add (m / j) (j * k) (m % j * k) (omega arith))

pub scaled_lt : (m j k : ℕ) → 0 < j → 0 < k → m % j * k < j * k
scaled_lt m j k jp kp = let l = mul-le-mul_left k (mod_below m j jp) in omega arith

pub lost_scaled : (m j k : ℕ) → 0 < k → leb j m ≡ leb (j * k) (m * k)
lost_scaled m j k kp = elim (cases_lt m j) [
  | inl small ↦
      let l = mul-le-mul_left k small in
      let g : m * k < j * k = omega arith in
      grind (arith, nat_tests)
  | inr large ↦
      let l = mul-le-mul_left k large in
      let g : j * k ≤ m * k = omega arith in
      grind (arith, nat_tests)
]

pub product_is : (x y j k : ℕ) → x ≡ 10 ^ j → y ≡ 10 ^ k → j + k ≡ 31 → x * y ≡ 10 ^ 31
product_is x y j k e f h = ap (λ z. z * y) e ∙ ap (λ z. 10 ^ j * z) f ∙ tens_split j k h
