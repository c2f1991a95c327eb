-- What a codeword with no, one or two changed bits reads as.
use Rattle.std.proofs.Common.{◌≡◌, ℕ, zero, suc, ◌+◌, ◌-◌, ◌%◌, ◌^◌, ◌<◌, ◌≤◌, ◌≢◌, sym, ◌∙◌, ap, refl, subst, arith, bit_xor, inl, inr}
use Rattle.std.specs.Int.{bit_at}
use Rattle.std.specs.Int.Bits.{xor_zero_r, xor_zero_l}
use Rattle.std.proofs.lemmas.Nat.Bits.{bit_at_xor, bit_at-zero, bit_at-pow_same, bit_at-pow_other}
use Rattle.std.proofs.lemmas.Bool.{cases_eq}
use Rattle.run_model.specs.declared.readings.Read.TheVariants.{Clean, Corrected, Uncorrectable}
use Rattle.run_model.specs.Code.{ones_where, anywhere, ones, highest, IsCodeword, value_of, flip, read_of}
use Rattle.runit_ecc.specs.Syndrome.{syndrome}
use Rattle.runit_ecc.proofs.Syndrome.{flip_same, flip_other, flip_twice, flip-lt, ones-flip, ones_where-flip_above, syndrome_of_codeword, same_from_xor, odd_is_none, far_even, far_itself}
use Rattle.runit_ecc.proofs.Distance.{zero_from_none, double, bit_cases, syndrome-xor, ones-xor}
use Rattle.runit_ecc.proofs.Deciding.{reads_is}

-- ---- counting the bits of a mask
sum_bits : (x y : ℕ) → (x + y) % 2 ≤ x + y
sum_bits x y = omega arith

pub ones-xor-le : (n a b : ℕ) → ones n (bit_xor a b) ≤ ones n a + ones n b
ones-xor-le zero a b = omega arith
ones-xor-le (suc n) a b = let r = ones-xor-le n a b in let s = sum_bits (bit_at a n) (bit_at b n) in rw (bit_at_xor a b n) (omega arith)

pub ones-zero : (n : ℕ) → ones n 0 ≡ 0
ones-zero zero = refl
ones-zero (suc n) = let r = ones-zero n in rw (bit_at-zero n) (omega arith)

ones-pow_above : (n p : ℕ) → n ≤ p → ones n (2 ^ p) ≡ 0
ones-pow_above zero p h = refl
ones-pow_above (suc n) p h = let ne : n ≢ p = omega arith in let r = ones-pow_above n p (omega arith) in rw (bit_at-pow_other p n ne) (omega arith)

pub ones-pow-le : (n p : ℕ) → ones n (2 ^ p) ≤ 1
ones-pow-le zero p = omega arith
ones-pow-le (suc n) p = elim (cases_eq n p) [
  | inl e ↦ subst (λ k. ones (suc n) (2 ^ k) ≤ 1) e (let z = ones-pow_above n n (omega arith) in rw (bit_at-pow_same n) (omega arith))
  | inr ne ↦ let r = ones-pow-le n p in rw (bit_at-pow_other p n ne) (omega arith)
]

-- the one bit of a mask
one_left : (n e : ℕ) → ones n e ≡ 1 → (highest n e < n) × (ones n (flip e (highest n e)) ≡ 0)
one_left zero e h = absurd (omega arith)
one_left (suc n) e h = elim (bit_cases e n) [
  | inl b ↦
      let r = one_left n e (omega arith) in
      let lt = r.0 in
      let ne : n ≢ highest n e = omega arith in
      let z = r.1 in
      let o = flip_other e (highest n e) n ne in
      rw b (omega arith, omega (arith, o, z))
  | inr b ↦ rw b (omega arith, rw (flip_same e n, b, ones_where-flip_above anywhere n e n (omega arith)) (omega arith))
]

pub single_highest : (n e : ℕ) → e < 2 ^ n → ones n e ≡ 1 → e ≡ 2 ^ highest n e
single_highest n e small h =
    let r = one_left n e h in
    same_from_xor e (2 ^ highest n e) (zero_from_none n (flip e (highest n e)) (flip-lt n e (highest n e) small r.0) r.1)

pub highest-lt : (n e : ℕ) → ones n e ≡ 1 → highest n e < n
highest-lt n e h = let r = one_left n e h in r.0

-- ---- reading
pub read_none : (n c x e : ℕ) → n ≤ 2 ^ (c - 1) → IsCodeword n c x → e < 2 ^ n → ones n e ≡ 0 → read_of n c (bit_xor x e) ≡ Clean (value_of n x)
read_none n c x e fits is small none =
    let z : e ≡ 0 = zero_from_none n e small none in
    let same : bit_xor x e ≡ x = ap (bit_xor x) z ∙ xor_zero_r x in
    ap (read_of n c) same ∙ reads_is n c x (Clean (value_of n x)) fits (is, refl)

pub read_one : (n c x e : ℕ) → n ≤ 2 ^ (c - 1) → IsCodeword n c x → e < 2 ^ n → ones n e ≡ 1 → read_of n c (bit_xor x e) ≡ Corrected (value_of n x) (highest n e)
read_one n c x e fits is small one =
    let p = highest n e in
    let lt : p < n = highest-lt n e one in
    let same : bit_xor x e ≡ flip x p = ap (bit_xor x) (single_highest n e small one) in
    let o = ones-flip n x p lt in
    let even = is.all_even in
    let odd : ones_where anywhere n (flip x p) % 2 ≡ 1 = omega arith in
    let back = flip_twice x p in
    ap (read_of n c) same ∙ reads_is n c (flip x p) (Corrected (value_of n x) p) fits
    (odd_is_none n c (flip x p) odd, lt, subst (λ y. IsCodeword n c y) (sym back) is, ap (value_of n) (sym back))

pub read_two : (n c x e : ℕ) → n ≤ 2 ^ (c - 1) → IsCodeword n c x → e < 2 ^ n → ones n e ≡ 2 → read_of n c (bit_xor x e) ≡ Uncorrectable
read_two n c x e fits is small two =
    let d = double n e two in
    let par = ones-xor n x e in
    let even = is.all_even in
    let w = bit_xor x e in
    let stays : ones_where anywhere n w % 2 ≡ 0 = omega arith in
    let s : syndrome n w ≡ bit_xor d.high d.low = syndrome-xor n x e ∙ ap (λ y. bit_xor y (syndrome n e)) (syndrome_of_codeword n c x fits is) ∙ xor_zero_l (syndrome n e) ∙ d.is in
    let ne : syndrome n w ≢ 0 = λ q. let h = same_from_xor d.high d.low (sym s ∙ q) in let l = d.ordered in omega arith in
    reads_is n c w Uncorrectable fits (far_itself n c w fits ne, λ p h. far_even n c w p stays h)
