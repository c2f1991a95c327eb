-- The syndrome of a word, and that a codeword is a word with syndrome 0 and an even number of ones.
use Rattle.std.proofs.Common.{◌≡◌, ℕ, zero, suc, ◌+◌, ◌-◌, ◌%◌, ◌^◌, ◌<◌, ◌≤◌, ◌≢◌, Bool, true, false, cond, eqb, sym, ◌∙◌, ap, refl, subst, arith, inl, inr, bit_xor, pow_pos}
use Rattle.std.specs.Int.{bit_at}
use Rattle.std.specs.Int.Bits.{xor_self, xor_comm, xor_assoc, xor_zero_l, xor_zero_r, xor_lt}
use Rattle.std.proofs.lemmas.Nat.{pow_below}
use Rattle.std.proofs.lemmas.Nat.Bits.{bit_at_xor, bit_at-pow_same, bit_at-pow_other, bit_at-lt, bit_at-zero, same_from_bits_below}
use Rattle.std.proofs.lemmas.Bool.Decides.{nat_tests}
use Rattle.std.proofs.lemmas.Bool.{cases_eq}
use Rattle.run_model.specs.Code.{ones_where, anywhere, with_bit, IsCodeword, flip}
use Rattle.runit_ecc.specs.Syndrome.{syndrome}

cond_same : (b : Bool) (x : ℕ) → cond b x x ≡ x
cond_same true x = refl
cond_same false x = refl

one_or_none : (x : ℕ) → x < 2 → cond (eqb x 1) 1 0 ≡ x
one_or_none x h = grind (arith, nat_tests)

-- bit j of the syndrome is the parity of the positions with that bit
syndrome_step : (x p k s j : ℕ) → x < 2 → bit_at s j ≡ k % 2 → bit_at (bit_xor (cond (eqb x 1) p 0) s) j ≡ (cond (eqb (bit_at p j) 1) x 0 + k) % 2
syndrome_step zero p k s j h e = rw (cond_same (eqb (bit_at p j) 1) 0) (omega arith)
syndrome_step (suc zero) p k s j h e = rw (bit_at_xor, one_or_none (bit_at p j) (bit_at-lt p j)) (omega arith)
syndrome_step (suc (suc x)) p k s j h e = absurd (omega arith)

pub bit_at-syndrome : (n w j : ℕ) → bit_at (syndrome n w) j ≡ ones_where (with_bit j) n w % 2
bit_at-syndrome zero w j = bit_at-zero j
bit_at-syndrome (suc n) w j = syndrome_step (bit_at w n) n (ones_where (with_bit j) n w) (syndrome n w) j (bit_at-lt w n) (bit_at-syndrome n w j)

cond_lt : (b : Bool) (x y m : ℕ) → x < m → y < m → cond b x y < m
cond_lt true x y m h g = h
cond_lt false x y m h g = g

pub syndrome-lt : (n w k : ℕ) → n ≤ 2 ^ k → syndrome n w < 2 ^ k
syndrome-lt zero w k h = pow_pos k
syndrome-lt (suc n) w k h = xor_lt k _ (syndrome n w) (cond_lt (eqb (bit_at w n) 1) n 0 (2 ^ k) (omega arith) (pow_pos k)) (syndrome-lt n w k (omega arith))

-- ---- one position changed
pub flip_same : (w p : ℕ) → bit_at (flip w p) p ≡ 1 - bit_at w p
flip_same w p = let h = bit_at-lt w p in rw (bit_at_xor, bit_at-pow_same) (omega arith)

pub flip_other : (w p i : ℕ) → i ≢ p → bit_at (flip w p) i ≡ bit_at w i
flip_other w p i ne = let h = bit_at-lt w i in rw (bit_at_xor, bit_at-pow_other) (omega arith)

pub flip_twice : (w p : ℕ) → flip (flip w p) p ≡ w
flip_twice w p = rw (xor_assoc w (2 ^ p) (2 ^ p), xor_self (2 ^ p)) (xor_zero_r w)

pub flip-lt : (n w p : ℕ) → w < 2 ^ n → p < n → flip w p < 2 ^ n
flip-lt n w p h g = xor_lt n w (2 ^ p) h (pow_below p n g)

pub ones_where-flip_above : (t : ℕ → Bool) (n w p : ℕ) → n ≤ p → ones_where t n (flip w p) ≡ ones_where t n w
ones_where-flip_above t zero w p h = refl
ones_where-flip_above t (suc n) w p h = let ne : n ≢ p = omega arith in let e = flip_other w p n ne in let r = ones_where-flip_above t n w p (omega arith) in cc

syndrome-flip_above : (n w p : ℕ) → n ≤ p → syndrome n (flip w p) ≡ syndrome n w
syndrome-flip_above zero w p h = refl
syndrome-flip_above (suc n) w p h = let ne : n ≢ p = omega arith in let e = flip_other w p n ne in let r = syndrome-flip_above n w p (omega arith) in cc

flip_here : (x p s : ℕ) → x < 2 → bit_xor (cond (eqb (1 - x) 1) p 0) s ≡ bit_xor p (bit_xor (cond (eqb x 1) p 0) s)
flip_here zero p s h = refl
flip_here (suc zero) p s h = sym (sym (xor_assoc p p s) ∙ ap (λ z. bit_xor z s) (xor_self p))
flip_here (suc (suc x)) p s h = absurd (omega arith)

swap_xor : (a p s : ℕ) → bit_xor a (bit_xor p s) ≡ bit_xor p (bit_xor a s)
swap_xor a p s = sym (xor_assoc a p s) ∙ ap (λ z. bit_xor z s) (xor_comm a p) ∙ xor_assoc p a s

syndrome-flip_top : (n w : ℕ) → syndrome (suc n) (flip w n) ≡ bit_xor n (syndrome (suc n) w)
syndrome-flip_top n w = rw (flip_same w n, syndrome-flip_above n w n (omega arith)) (flip_here (bit_at w n) n (syndrome n w) (bit_at-lt w n))

pub syndrome-flip : (n w p : ℕ) → p < n → syndrome n (flip w p) ≡ bit_xor p (syndrome n w)
syndrome-flip zero w p h = absurd (omega arith)
syndrome-flip (suc n) w p h = elim (cases_eq n p) [
  | inl e ↦ subst (λ q. syndrome (suc n) (flip w q) ≡ bit_xor q (syndrome (suc n) w)) e (syndrome-flip_top n w)
  | inr ne ↦ let lt : p < n = omega arith in rw (flip_other w p n ne, syndrome-flip n w p lt) (swap_xor (cond (eqb (bit_at w n) 1) n 0) p (syndrome n w))
]

-- the number of ones changes between even and odd
ones-flip_top : (n w : ℕ) → (ones_where anywhere (suc n) (flip w n) + ones_where anywhere (suc n) w) % 2 ≡ 1
ones-flip_top n w = let h = bit_at-lt w n in rw (flip_same w n, ones_where-flip_above anywhere n w n (omega arith)) (omega arith)

pub ones-flip : (n w p : ℕ) → p < n → (ones_where anywhere n (flip w p) + ones_where anywhere n w) % 2 ≡ 1
ones-flip zero w p h = absurd (omega arith)
ones-flip (suc n) w p h = elim (cases_eq n p) [
  | inl e ↦ subst (λ q. (ones_where anywhere (suc n) (flip w q) + ones_where anywhere (suc n) w) % 2 ≡ 1) e (ones-flip_top n w)
  | inr ne ↦ let lt : p < n = omega arith in let r = ones-flip n w p lt in rw (flip_other w p n ne) (omega arith)
]

-- ---- codewords
pub codeword_from : (n c w : ℕ) → w < 2 ^ n → ones_where anywhere n w % 2 ≡ 0 → syndrome n w ≡ 0 → IsCodeword n c w
codeword_from n c w size even none = record {
  size = size;
  all_even = even;
  each_even = λ j h. sym (bit_at-syndrome n w j) ∙ ap (λ s. bit_at s j) none ∙ bit_at-zero j;
}

pub syndrome_of_codeword : (n c w : ℕ) → n ≤ 2 ^ (c - 1) → IsCodeword n c w → syndrome n w ≡ 0
syndrome_of_codeword n c w fits is = same_from_bits_below (c - 1) (syndrome n w) 0 (syndrome-lt n w (c - 1) fits) (pow_pos (c - 1)) (λ j h. bit_at-syndrome n w j ∙ is.each_even j h ∙ sym (bit_at-zero j))

-- ---- what a reading finds
pub corrects : (n c w : ℕ) → w < 2 ^ n → ones_where anywhere n w % 2 ≡ 1 → syndrome n w < n → IsCodeword n c (flip w (syndrome n w))
corrects n c w size odd inside =
    let s = syndrome n w in
    let e = ones-flip n w s inside in
    codeword_from n c (flip w s) (flip-lt n w s size inside) (omega arith) (syndrome-flip n w s inside ∙ xor_self s)

pub odd_is_none : (n c w : ℕ) → ones_where anywhere n w % 2 ≡ 1 → ¬ IsCodeword n c w
odd_is_none n c w odd is = omega arith

pub same_from_xor : (a b : ℕ) → bit_xor a b ≡ 0 → a ≡ b
same_from_xor a b e = sym (xor_zero_r a) ∙ ap (bit_xor a) (sym (xor_self b)) ∙ sym (xor_assoc a b b) ∙ ap (λ z. bit_xor z b) e ∙ xor_zero_l b

-- an odd word whose syndrome is no position
pub far_odd : (n c w p : ℕ) → n ≤ 2 ^ (c - 1) → n ≤ syndrome n w → p < n → ¬ IsCodeword n c (flip w p)
far_odd n c w p fits past inside is =
    let e = same_from_xor p (syndrome n w) (sym (syndrome-flip n w p inside) ∙ syndrome_of_codeword n c (flip w p) fits is) in
    omega arith

-- an even word with a syndrome
pub far_even : (n c w p : ℕ) → ones_where anywhere n w % 2 ≡ 0 → p < n → ¬ IsCodeword n c (flip w p)
far_even n c w p even inside is = let e = ones-flip n w p inside in omega arith

pub far_itself : (n c w : ℕ) → n ≤ 2 ^ (c - 1) → syndrome n w ≢ 0 → ¬ IsCodeword n c w
far_itself n c w fits ne is = ne (syndrome_of_codeword n c w fits is)

-- a number that is too large
pub far_large : (n c w p : ℕ) → 2 ^ n ≤ w → p < n → ¬ IsCodeword n c (flip w p)
far_large n c w p large inside is =
    let e = flip_twice w p in
    let l = flip-lt n (flip w p) p is.size inside in
    omega arith
