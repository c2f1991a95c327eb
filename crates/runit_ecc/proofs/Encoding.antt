-- The check positions set by the syndrome make a codeword, and leave the value.
use Rattle.std.proofs.Common.{◌≡◌, ℕ, zero, suc, ◌+◌, ◌-◌, ◌*◌, ◌%◌, ◌^◌, ◌<◌, ◌≤◌, ◌≢◌, Bool, true, false, cond, eqb, sym, ◌∙◌, ap, refl, subst, arith, bit_xor, pow_pos}
use Rattle.std.proofs.Math.Pow.{pow_mono}
use Rattle.std.proofs.Math.Nat.{mod-eq_of_lt}
use Rattle.std.specs.Int.{bit_at}
use Rattle.std.specs.Int.Bits.{xor_self, xor_comm, xor_assoc, xor_zero_r, xor_shifted}
use Rattle.std.proofs.lemmas.Nat.{mod_below}
use Rattle.std.proofs.lemmas.Nat.Bits.{bit_at_cat_low, bit_at_cat_high, bit_at_lowest, bit_at-lt}
use Rattle.std.proofs.lemmas.Bool.Decides.{nat_tests}
use Rattle.run_model.specs.Code.{places, value_of, is_check, flip, ones, ones_where, anywhere, IsCodeword, placed, with_checks, encoded}
use Rattle.runit_ecc.specs.Syndrome.{syndrome, set_checks}
use Rattle.runit_ecc.proofs.Syndrome.{flip_other, flip-lt, syndrome-flip, syndrome-lt, ones-flip, codeword_from, bit_at-syndrome}
use Rattle.runit_ecc.proofs.Segments.{low_digits, check_pow}
use Rattle.runit_ecc.proofs.Values.{placed_lt}

-- ---- the value in its places
value_of-cat : (m n w a : ℕ) → m ≤ n → value_of m (a * 2 ^ n + w) ≡ value_of m w
value_of-cat zero n w a h = refl
value_of-cat (suc m) n w a h =
    let lt : m < n = omega arith in
    let e = bit_at_cat_low a n w m lt in
    let r = value_of-cat m n w a (omega arith) in
    cc

top_bit : (n w b : ℕ) → w < 2 ^ n → b < 2 → bit_at (b * 2 ^ n + w) n ≡ b
top_bit n w b h g =
    let e : n - n ≡ 0 = omega arith in
    let m : b % 2 ≡ b = omega arith in
    bit_at_cat_high b n w n h (omega arith) ∙ ap (bit_at b) e ∙ bit_at_lowest b ∙ m

value_free : (n w : ℕ) → is_check n ≡ false → value_of (suc n) w ≡ bit_at w n * 2 ^ places n + value_of n w
value_free n w e = rw e refl

placed_value : (n w b : ℕ) → w < 2 ^ n → b < 2 → is_check n ≡ false → value_of (suc n) (b * 2 ^ n + w) ≡ b * 2 ^ places n + value_of n w
placed_value n w b h g free =
    value_free n (b * 2 ^ n + w) free ∙ ap (λ x. x * 2 ^ places n + value_of n (b * 2 ^ n + w)) (top_bit n w b h g) ∙ ap (λ x. b * 2 ^ places n + x) (value_of-cat n n w b (omega arith))

-- ---- a change at a check position leaves the value
apart_from : (n p : ℕ) → is_check n ≡ false → is_check p ≡ true → n ≢ p
apart_from n p free taken e = let q = ap is_check e in cc

value_flip_step : (n w p : ℕ) → is_check p ≡ true → (b : Bool) → is_check n ≡ b → value_of n (flip w p) ≡ value_of n w → value_of (suc n) (flip w p) ≡ value_of (suc n) w
value_flip_step n w p taken true e r = rw e r
value_flip_step n w p taken false e r = let o = flip_other w p n (apart_from n p e taken) in rw e (ap (λ x. x * 2 ^ places n + value_of n (flip w p)) o ∙ ap (λ x. bit_at w n * 2 ^ places n + x) r)

pub value_of-flip : (n w p : ℕ) → is_check p ≡ true → value_of n (flip w p) ≡ value_of n w
value_of-flip zero w p taken = refl
value_of-flip (suc n) w p taken = value_flip_step n w p taken (is_check n) refl (value_of-flip n w p taken)

pub check_zero : is_check 0 ≡ true
check_zero = refl

-- ---- the check positions
choose : (P : ℕ → Type 0) (b : Bool) (x y : ℕ) → P x → P y → P (cond b x y)
choose P true x y h g = h
choose P false x y h g = g

pub set_checks-lt : (n j s w : ℕ) → w < 2 ^ n → ((i : ℕ) → i < j → 2 ^ i < n) → set_checks j s w < 2 ^ n
set_checks-lt n zero s w h inside = h
set_checks-lt n (suc j) s w h inside =
    let r = set_checks-lt n j s w h (λ i g. inside i (omega arith)) in
    choose (λ x. x < 2 ^ n) (eqb (bit_at s j) 1) (flip (set_checks j s w) (2 ^ j)) (set_checks j s w) (flip-lt n (set_checks j s w) (2 ^ j) r (inside j (omega arith))) r

pub value_of-set_checks : (n j s w : ℕ) → value_of n (set_checks j s w) ≡ value_of n w
value_of-set_checks n zero s w = refl
value_of-set_checks n (suc j) s w =
    let r = value_of-set_checks n j s w in
    choose (λ x. value_of n x ≡ value_of n w) (eqb (bit_at s j) 1) (flip (set_checks j s w) (2 ^ j)) (set_checks j s w) (value_of-flip n (set_checks j s w) (2 ^ j) (check_pow j) ∙ r) r

-- the part of the syndrome below the next bit
next_low : (b j r x y : ℕ) → b < 2 → r < 2 ^ j → bit_xor y (bit_xor x r) ≡ bit_xor x (bit_xor y r)
next_low b j r x y h g = sym (xor_assoc y x r) ∙ ap (λ z. bit_xor z r) (xor_comm y x) ∙ xor_assoc x y r

check_step : (n j s w b : ℕ) → b < 2 → bit_at s j ≡ b → 2 ^ j < n → syndrome n (set_checks j s w) ≡ bit_xor (syndrome n w) (s % 2 ^ j) → syndrome n (set_checks (suc j) s w) ≡ bit_xor (syndrome n w) (s % 2 ^ (j + 1))
check_step n j s w zero h e inside r =
    let l = low_digits s j in
    let m : s % 2 ^ (j + 1) ≡ s % 2 ^ j = l ∙ ap (λ x. x * 2 ^ j + s % 2 ^ j) e ∙ omega arith in
    rw (e, m) r
check_step n j s w (suc zero) h e inside r =
    let l = low_digits s j in
    let low = mod_below s (2 ^ j) (pow_pos j) in
    let one : 1 * 2 ^ j ≡ 2 ^ j = omega arith in
    let m : s % 2 ^ (j + 1) ≡ bit_xor (2 ^ j) (s % 2 ^ j) = l ∙ ap (λ x. x * 2 ^ j + s % 2 ^ j) e ∙ sym (xor_shifted 1 j (s % 2 ^ j) low) ∙ ap (λ x. bit_xor x (s % 2 ^ j)) one in
    rw (e, m) (syndrome-flip n (set_checks j s w) (2 ^ j) inside ∙ ap (bit_xor (2 ^ j)) r ∙ next_low 0 j (s % 2 ^ j) (syndrome n w) (2 ^ j) (omega arith) low)
check_step n j s w (suc (suc b)) h e inside r = absurd (omega arith)

pub syndrome-set_checks : (n j s w : ℕ) → ((i : ℕ) → i < j → 2 ^ i < n) → syndrome n (set_checks j s w) ≡ bit_xor (syndrome n w) (s % 2 ^ j)
syndrome-set_checks n zero s w inside = let e : s % 1 ≡ 0 = omega arith in rw e (sym (xor_zero_r (syndrome n w)))
syndrome-set_checks n (suc j) s w inside =
    let r = check_step n j s w (bit_at s j) (bit_at-lt s j) refl (inside j (omega arith)) (syndrome-set_checks n j s w (λ i g. inside i (omega arith))) in
    let e : j + 1 ≡ suc j = omega arith in
    r ∙ ap (λ i. bit_xor (syndrome n w) (s % 2 ^ i)) e

pub inside_from : (n c : ℕ) → 2 ^ (c - 2) < n → (i : ℕ) → i < c - 1 → 2 ^ i < n
inside_from n c h i g = let le : i ≤ c - 2 = omega arith in let m : 2 ^ i ≤ 2 ^ (c - 2) = pow_mono le in omega arith

-- with the syndrome's own bits at the check positions it is 0
pub checked : (n c w : ℕ) → n ≤ 2 ^ (c - 1) → 2 ^ (c - 2) < n → syndrome n (set_checks (c - 1) (syndrome n w) w) ≡ 0
checked n c w fits tops =
    let s = syndrome n w in
    let lt = syndrome-lt n w (c - 1) fits in
    let e : s % 2 ^ (c - 1) ≡ s = mod-eq_of_lt lt in
    syndrome-set_checks n (c - 1) s w (inside_from n c tops) ∙ ap (bit_xor s) e ∙ xor_self s

-- the codeword, with position 0 as overall parity
pub encoded_even : (n c w : ℕ) → n ≤ 2 ^ (c - 1) → 2 ^ (c - 2) < n → w < 2 ^ n → (let r = set_checks (c - 1) (syndrome n w) w in ones_where anywhere n r % 2 ≡ 0 → IsCodeword n c r)
encoded_even n c w fits tops h even =
    let r = set_checks (c - 1) (syndrome n w) w in
    codeword_from n c r (set_checks-lt n (c - 1) (syndrome n w) w h (inside_from n c tops)) even (checked n c w fits tops)

pub encoded_odd : (n c w : ℕ) → n ≤ 2 ^ (c - 1) → 2 ^ (c - 2) < n → w < 2 ^ n → (let r = set_checks (c - 1) (syndrome n w) w in ones_where anywhere n r % 2 ≡ 1 → IsCodeword n c (flip r 0))
encoded_odd n c w fits tops h odd =
    let r = set_checks (c - 1) (syndrome n w) w in
    let some : 0 < n = omega arith in
    let lt = set_checks-lt n (c - 1) (syndrome n w) w h (inside_from n c tops) in
    let e = ones-flip n r 0 some in
    codeword_from n c (flip r 0) (flip-lt n r 0 lt some) (omega arith) (syndrome-flip n r 0 some ∙ checked n c w fits tops)

-- ---- the same of the definition
pub checks_same : (n w from j : ℕ) → with_checks n from j w ≡ set_checks j (syndrome n from) w
checks_same n w from zero = refl
checks_same n w from (suc j) =
    let r = checks_same n w from j in
    let b = bit_at-syndrome n from j in
    rw (b, r) refl

placed_is_step : (n v : ℕ) (b : Bool) → is_check n ≡ b → value_of n (placed n v) ≡ v % 2 ^ places n → value_of (suc n) (placed (suc n) v) ≡ v % 2 ^ places (suc n)
placed_is_step n v true e r = rw e r
placed_is_step n v false e r =
    let k = places n in
    let s = placed_value n (placed n v) (bit_at v k) (placed_lt n v) (bit_at-lt v k) e in
    let c : placed (suc n) v ≡ bit_at v k * 2 ^ n + placed n v = rw e refl in
    let d : places (suc n) ≡ k + 1 = rw e refl in
    ap (value_of (suc n)) c ∙ s ∙ ap (λ x. bit_at v k * 2 ^ k + x) r ∙ sym (low_digits v k) ∙ ap (λ j. v % 2 ^ j) (sym d)

pub placed_is : (n v : ℕ) → value_of n (placed n v) ≡ v % 2 ^ places n
placed_is zero v = let e : v % 1 ≡ 0 = omega arith in sym e
placed_is (suc n) v = placed_is_step n v (is_check n) refl (placed_is n v)

parity_cases : (n c w : ℕ) → ((ones n w % 2 ≡ 0 → IsCodeword n c w) × (ones n w % 2 ≡ 1 → IsCodeword n c (flip w 0))) → (b : Bool) → eqb (ones n w % 2) 0 ≡ b → IsCodeword n c (cond b w (flip w 0))
parity_cases n c w h true e = h.0 (grind (arith, nat_tests))
parity_cases n c w h false e = h.1 (let m = mod_below (ones n w) 2 (omega arith) in grind (arith, nat_tests))

pub encoded_codeword : (n c v : ℕ) → n ≤ 2 ^ (c - 1) → 2 ^ (c - 2) < n → IsCodeword n c (encoded n c v)
unfolding encoded
encoded_codeword n c v fits tops =
    let p = placed n v in
    let w = with_checks n p (c - 1) p in
    let s = checks_same n p p (c - 1) in
    parity_cases n c w (subst (λ x. (ones n x % 2 ≡ 0 → IsCodeword n c x) × (ones n x % 2 ≡ 1 → IsCodeword n c (flip x 0))) (sym s) (encoded_even n c p fits tops (placed_lt n v), encoded_odd n c p fits tops (placed_lt n v))) (eqb (ones n w % 2) 0) refl

parity_value : (n w : ℕ) (b : Bool) → value_of n (cond b w (flip w 0)) ≡ value_of n w
parity_value n w true = refl
parity_value n w false = value_of-flip n w 0 check_zero

pub encoded_value : (n c v : ℕ) → v < 2 ^ places n → value_of n (encoded n c v) ≡ v
unfolding encoded
encoded_value n c v h =
    let p = placed n v in
    let w = with_checks n p (c - 1) p in
    parity_value n w (eqb (ones n w % 2) 0) ∙ ap (value_of n) (checks_same n p p (c - 1)) ∙ value_of-set_checks n (c - 1) (syndrome n p) p ∙ placed_is n v ∙ mod-eq_of_lt h
