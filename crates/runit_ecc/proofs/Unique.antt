-- A codeword is determined by its value.
use Rattle.std.proofs.Common.{◌≡◌, ℕ, zero, suc, ◌+◌, ◌-◌, ◌*◌, ◌%◌, ◌^◌, ◌<◌, ◌≤◌, ◌⊎◌, Bool, true, false, cond, sym, ◌∙◌, ap, refl, subst, arith, inl, inr, bit_xor}
use Rattle.std.specs.Int.{bit_at}
use Rattle.std.specs.Int.Bits.{xor_zero_r, xor_lt}
use Rattle.std.proofs.lemmas.Nat.{same_from_place}
use Rattle.std.proofs.lemmas.Nat.Bits.{bit_at_xor, bit_at-lt, bit_at-zero, bit_at_above, bit_at-pow_same}
use Rattle.std.proofs.lemmas.Bool.{cases_eq, cases_lt}
use Rattle.run_model.specs.Code.{ones, ones_where, anywhere, with_bit, IsCodeword, is_check, places, value_of}
use Rattle.runit_ecc.specs.Syndrome.{syndrome}
use Rattle.runit_ecc.proofs.Syndrome.{bit_at-syndrome, syndrome_of_codeword, same_from_xor}
use Rattle.runit_ecc.proofs.Distance.{zero_from_none, syndrome-xor, ones-xor}
use Rattle.runit_ecc.proofs.Segments.{free_between}
use Rattle.runit_ecc.proofs.Values.{value_lt}

-- ---- a position other than 0 is a power of two or holds a bit of the value
record IsPower (k p : ℕ) : Type 0 where
  exponent : ℕ
  below : exponent < k
  is : p ≡ 2 ^ exponent

next_power : (k : ℕ) → 2 ^ suc k ≡ 2 ^ (k + 1)
next_power k = let q : suc k ≡ k + 1 = omega arith in ap (λ i. 2 ^ i) q

widened : (k p : ℕ) → IsPower k p → IsPower (suc k) p
widened k p r = let b = r.below in record { exponent = r.exponent; below = omega arith; is = r.is }

power_or_free : (k p : ℕ) → 0 < p → p < 2 ^ k → IsPower k p ⊎ (is_check p ≡ false)
power_or_free zero p pos lt = absurd (omega arith)
power_or_free (suc k) p pos lt = elim (cases_lt p (2 ^ k)) [
  | inl small ↦ elim (power_or_free k p pos small) [ inl r ↦ inl (widened k p r) | inr f ↦ inr f ]
  | inr large ↦ elim (cases_eq p (2 ^ k)) [
    | inl e ↦ inl (record { exponent = k; below = omega arith; is = e })
    | inr ne ↦ let n = next_power k in inr (free_between k p (omega arith) (omega arith))
  ]
]

-- ---- no position below 2 ^ j has the bit 2 ^ j
none_below : (m j w : ℕ) → m ≤ 2 ^ j → ones_where (with_bit j) m w ≡ 0
none_below zero j w h = refl
none_below (suc m) j w h =
    let z : bit_at m j ≡ 0 = bit_at_above m j j (omega arith) (omega arith) in
    let r = none_below m j w (omega arith) in
    rw z (omega arith)

power_bit : (j w : ℕ) → ones_where (with_bit j) (suc (2 ^ j)) w ≡ bit_at w (2 ^ j)
power_bit j w =
    let o = bit_at-pow_same j in
    let z = none_below (2 ^ j) j w (omega arith) in
    rw o (omega arith)

-- ---- a word with even parities and no bit of a value has no ones
cond_none : (b : Bool) (x k : ℕ) → x ≡ 0 → cond b x 0 + k ≡ k
cond_none true x k e = omega arith
cond_none false x k e = omega arith

step_down : (t : ℕ → Bool) (m x : ℕ) → bit_at x m ≡ 0 → ones_where t (suc m) x ≡ ones_where t m x
step_down t m x z = cond_none (t m) (bit_at x m) (ones_where t m x) z

record IsBare (m c x : ℕ) : Type 0 where
  within : m ≤ 2 ^ (c - 1)
  free : (p : ℕ) → p < m → is_check p ≡ false → bit_at x p ≡ 0
  all_even : ones m x % 2 ≡ 0
  each_even : (j : ℕ) → j < c - 1 → ones_where (with_bit j) m x % 2 ≡ 0

first_zero : (c x : ℕ) → IsBare 1 c x → bit_at x 0 ≡ 0
first_zero c x b = let e = b.all_even in let l = bit_at-lt x 0 in omega arith

power_zero : (m c x j : ℕ) → IsBare (suc m) c x → j < c - 1 → m ≡ 2 ^ j → bit_at x m ≡ 0
power_zero m c x j b lt e =
    let even = b.each_even j lt in
    let q : ones_where (with_bit j) (suc m) x ≡ bit_at x m = subst (λ i. ones_where (with_bit j) (suc i) x ≡ bit_at x i) (sym e) (power_bit j x) in
    let l = bit_at-lt x m in
    omega arith

top_zero : (m c x : ℕ) → IsBare (suc m) c x → bit_at x m ≡ 0
top_zero zero c x b = first_zero c x b
top_zero (suc m) c x b =
    let w = b.within in
    elim (power_or_free (c - 1) (suc m) (omega arith) (omega arith)) [
      | inl r ↦ power_zero (suc m) c x r.exponent b r.below r.is
      | inr f ↦ b.free (suc m) (omega arith) f
    ]

bare_none : (m c x : ℕ) → IsBare m c x → ones m x ≡ 0
bare_none zero c x b = refl
bare_none (suc m) c x b =
    let z = top_zero m c x b in
    let w = b.within in
    let d = step_down anywhere m x z in
    let r = bare_none m c x (record {
      within = omega arith;
      free = λ p h f. b.free p (omega arith) f;
      all_even = ap (λ k. k % 2) (sym d) ∙ b.all_even;
      each_even = λ j h. ap (λ k. k % 2) (sym (step_down (with_bit j) m x z)) ∙ b.each_even j h;
    }) in
    d ∙ r

-- ---- words with one value have the same bits of the value
same_bits_step : (n a b p : ℕ) (k : Bool) → is_check n ≡ k → value_of (suc n) a ≡ value_of (suc n) b → (value_of n a ≡ value_of n b) × (is_check n ≡ false → bit_at a n ≡ bit_at b n)
same_bits_step n a b p true e v =
    let s : value_of n a ≡ value_of n b = rw e at v in
    (s, λ f. let q : true ≡ false = sym e ∙ f in cc)
same_bits_step n a b p false e v =
    let s : bit_at a n * 2 ^ places n + value_of n a ≡ bit_at b n * 2 ^ places n + value_of n b = rw e at v in
    let t = same_from_place (bit_at a n) (value_of n a) (bit_at b n) (value_of n b) (2 ^ places n) (value_lt n a) (value_lt n b) s in
    (t.1, λ f. t.0)

same_bits : (n a b p : ℕ) → value_of n a ≡ value_of n b → p < n → is_check p ≡ false → bit_at a p ≡ bit_at b p
same_bits zero a b p v h f = absurd (omega arith)
same_bits (suc n) a b p v h f =
    let s = same_bits_step n a b p (is_check n) refl v in
    elim (cases_eq n p) [
      | inl e ↦ subst (λ i. bit_at a i ≡ bit_at b i) e (s.1 (subst (λ i. is_check i ≡ false) (sym e) f))
      | inr ne ↦ same_bits n a b p s.0 (omega arith) f
    ]

pub by_value : (n c a b : ℕ) → n ≤ 2 ^ (c - 1) → IsCodeword n c a → IsCodeword n c b → value_of n a ≡ value_of n b → a ≡ b
by_value n c a b fits ia ib v =
    let x = bit_xor a b in
    let s : syndrome n x ≡ 0 = syndrome-xor n a b ∙ ap (bit_xor (syndrome n a)) (syndrome_of_codeword n c b fits ib) ∙ xor_zero_r (syndrome n a) ∙ syndrome_of_codeword n c a fits ia in
    let o = ones-xor n a b in
    let ea = ia.all_even in
    let eb = ib.all_even in
    let none = bare_none n c x (record {
      within = fits;
      free = λ p h f. let q = same_bits n a b p v h f in let m = bit_at_xor a b p in omega arith;
      all_even = omega arith;
      each_even = λ j h. sym (bit_at-syndrome n x j) ∙ ap (λ y. bit_at y j) s ∙ bit_at-zero j;
    }) in
    same_from_xor a b (zero_from_none n x (xor_lt n a b ia.size ib.size) none)
