-- The ones of a word, counted by the processor, under a mask and up to a width; the parities are the syndrome.
use Rattle.std.proofs.Common.{◌≡◌, ℕ, zero, suc, ◌+◌, ◌-◌, ◌*◌, ◌/◌, ◌%◌, ◌^◌, ◌<◌, ◌≤◌, ◌≢◌, Bool, true, false, cond, eqb, sym, ◌∙◌, ap, refl, subst, arith, inl, inr, bit_and, pow_pos, slice_index}
use Rattle.std.specs.Int.{bit_at}
use Rattle.std.specs.Int.Count.{ones as counted}
use Rattle.std.proofs.lemmas.Nat.{ones-le, ones_cat, zero_from_ones, shr_split, mod_below, shr_below, mul-add-lt, pow-add}
use Rattle.std.proofs.lemmas.Nat.Bits.{bit_at_and, bit_at-lt, bit_at_lowest, bit_at_above, bit_at_cat_low, bit_at_cat_high, same_from_bits_below}
use Rattle.std.proofs.lemmas.Bool.{cases_eq}
use Rattle.run_model.specs.Code.{ones, ones_where, anywhere, with_bit}
use Rattle.runit_ecc.specs.Syndrome.{syndrome, parity, check_parity, parities, mask, check_mask, check_masks}
use Rattle.runit_ecc.proofs.Syndrome.{bit_at-syndrome, syndrome-lt}

-- ---- ones up to a width
pub ones_where-cat : (t : ℕ → Bool) (m n w a : ℕ) → m ≤ n → ones_where t m (a * 2 ^ n + w) ≡ ones_where t m w
ones_where-cat t zero n w a h = refl
ones_where-cat t (suc m) n w a h =
    let lt : m < n = omega arith in
    let e = bit_at_cat_low a n w m lt in
    let r = ones_where-cat t m n w a (omega arith) in
    cc

cond_zero : (b : Bool) (x : ℕ) → x ≡ 0 → cond b x 0 ≡ 0
cond_zero true x e = e
cond_zero false x e = refl

-- a word below 2 ^ n has no ones from n on
pub ones_where-above : (t : ℕ → Bool) (n k w : ℕ) → w < 2 ^ n → ones_where t (k + n) w ≡ ones_where t n w
ones_where-above t n zero w h = let e : zero + n ≡ n = omega arith in ap (λ m. ones_where t m w) e
ones_where-above t n (suc k) w h =
    let e : suc k + n ≡ suc (k + n) = omega arith in
    let z : cond (t (k + n)) (bit_at w (k + n)) 0 ≡ 0 = cond_zero (t (k + n)) (bit_at w (k + n)) (bit_at_above w n (k + n) h (omega arith)) in
    ap (λ m. ones_where t m w) e ∙ ap (λ x. x + ones_where t (k + n) w) z ∙ ap (λ x. 0 + x) (ones_where-above t n k w h) ∙ omega arith

pub ones_where-wider : (t : ℕ → Bool) (n m w : ℕ) → n ≤ m → w < 2 ^ n → ones_where t m w ≡ ones_where t n w
ones_where-wider t n m w le h = let e : m ≡ (m - n) + n = omega arith in ap (λ k. ones_where t k w) e ∙ ones_where-above t n (m - n) w h

-- ---- the processor's count
counted_bit : (b : ℕ) → b < 2 → counted b ≡ b
counted_bit zero h = let le = ones-le 0 0 (omega arith) in omega arith
counted_bit (suc zero) h =
    let le = ones-le 1 1 (omega arith) in
    let ne : counted 1 ≢ 0 = λ e. let z = zero_from_ones 1 e in omega arith in
    omega arith
counted_bit (suc (suc b)) h = absurd (omega arith)

pub counted_is : (n w : ℕ) → w < 2 ^ n → counted w ≡ ones n w
counted_is zero w h = let le = ones-le 0 w h in omega arith
counted_is (suc n) w h =
    let q : suc n ≡ 1 + n = omega arith in
    let hh : w < 2 ^ (1 + n) = subst (λ k. w < 2 ^ k) q h in
    let top : w / 2 ^ n < 2 = shr_below w 1 n hh in
    let low = mod_below w (2 ^ n) (pow_pos n) in
    let split = shr_split w n in
    let bit : bit_at w n ≡ w / 2 ^ n = omega arith in
    let cat = ones_cat n (w / 2 ^ n) (w % 2 ^ n) low in
    let rest : ones n w ≡ ones n (w % 2 ^ n) = ap (ones n) (sym split) ∙ ones_where-cat anywhere n n (w % 2 ^ n) (w / 2 ^ n) (omega arith) in
    let whole : counted w ≡ counted (w / 2 ^ n) + counted (w % 2 ^ n) = ap counted (sym split) ∙ cat in
    let one = counted_bit (w / 2 ^ n) top in
    let r = counted_is n (w % 2 ^ n) low in
    omega arith

pub count_parity : (w : ℕ) → w < 2 ^ 128 → counted w % 2 ≡ parity w
unfolding parity
count_parity w h = ap (λ x. x % 2) (counted_is 128 w h)

-- ---- masks
pub cat_lt : (a k r : ℕ) → a < 2 → r < 2 ^ k → a * 2 ^ k + r < 2 ^ suc k
cat_lt a k r h g = let l = mul-add-lt a (2 ^ k) r 2 h g in let q : suc k ≡ k + 1 = omega arith in let p : 2 ^ suc k ≡ 2 ^ (k + 1) = ap (λ i. 2 ^ i) q in let e = pow-add 2 k 1 in omega arith

cat_top : (a k r : ℕ) → a < 2 → r < 2 ^ k → bit_at (a * 2 ^ k + r) k ≡ a
cat_top a k r h g =
    let e : k - k ≡ 0 = omega arith in
    let m : a % 2 ≡ a = omega arith in
    bit_at_cat_high a k r k g (omega arith) ∙ ap (bit_at a) e ∙ bit_at_lowest a ∙ m

mask_lt : (m j : ℕ) → mask m j < 2 ^ m
mask_lt zero j = omega arith
mask_lt (suc m) j = cat_lt (bit_at m j) m (mask m j) (bit_at-lt m j) (mask_lt m j)

bit_at-mask : (m j p : ℕ) → p < m → bit_at (mask m j) p ≡ bit_at p j
bit_at-mask zero j p h = absurd (omega arith)
bit_at-mask (suc m) j p h = elim (cases_eq m p) [
  | inl e ↦ subst (λ i. bit_at (mask (suc m) j) i ≡ bit_at i j) e (cat_top (bit_at m j) m (mask m j) (bit_at-lt m j) (mask_lt m j))
  | inr ne ↦ let lt : p < m = omega arith in bit_at_cat_low (bit_at m j) m (mask m j) p lt ∙ bit_at-mask m j p lt
]

min_bits : (x y : ℕ) → x < 2 → y < 2 → Rattle.std.specs.Prelude.min x y ≡ cond (eqb y 1) x 0
min_bits x zero h g = omega arith
min_bits x (suc zero) h g = omega arith
min_bits x (suc (suc y)) h g = absurd (omega arith)

masked_step : (x y r s : ℕ) → x ≡ y → r ≡ s → x + r ≡ y + s
masked_step x y r s e f = omega arith

masked_ones_up : (n m j w : ℕ) → n ≤ m → ones n (bit_and w (mask m j)) ≡ ones_where (with_bit j) n w
masked_ones_up zero m j w h = refl
masked_ones_up (suc n) m j w h =
    let lt : n < m = omega arith in
    let one : bit_at (bit_and w (mask m j)) n ≡ cond (eqb (bit_at n j) 1) (bit_at w n) 0 =
    bit_at_and w (mask m j) n ∙ ap (Rattle.std.specs.Prelude.min (bit_at w n)) (bit_at-mask m j n lt) ∙ min_bits (bit_at w n) (bit_at n j) (bit_at-lt w n) (bit_at-lt n j) in
    masked_step (bit_at (bit_and w (mask m j)) n) (cond (eqb (bit_at n j) 1) (bit_at w n) 0) (ones n (bit_and w (mask m j))) (ones_where (with_bit j) n w) one (masked_ones_up n m j w (omega arith))

pub masked_parity : (j w : ℕ) → parity (bit_and w (check_mask j)) ≡ check_parity j w
unfolding parity check_parity check_mask
masked_parity j w = ap (λ x. x % 2) (masked_ones_up 128 128 j w (omega arith))

pub masks_are : (j : ℕ) → j < 7 → slice_index check_masks j ≡ check_mask j
unfolding check_mask
masks_are zero h = refl
masks_are (suc zero) h = refl
masks_are (suc (suc zero)) h = refl
masks_are (suc (suc (suc zero))) h = refl
masks_are (suc (suc (suc (suc zero)))) h = refl
masks_are (suc (suc (suc (suc (suc zero))))) h = refl
masks_are (suc (suc (suc (suc (suc (suc zero)))))) h = refl
masks_are (suc (suc (suc (suc (suc (suc (suc j))))))) h = absurd (omega arith)

-- ---- the parities are the syndrome
parity_lt : (j w : ℕ) → check_parity j w < 2
unfolding check_parity
parity_lt j w = mod_below (ones_where (with_bit j) 128 w) 2 (omega arith)

parities_lt : (j w : ℕ) → parities j w < 2 ^ j
parities_lt zero w = omega arith
parities_lt (suc j) w = cat_lt (check_parity j w) j (parities j w) (parity_lt j w) (parities_lt j w)

bit_at-parities : (k j w : ℕ) → j < k → bit_at (parities k w) j ≡ check_parity j w
bit_at-parities zero j w h = absurd (omega arith)
bit_at-parities (suc k) j w h = elim (cases_eq k j) [
  | inl e ↦ subst (λ i. bit_at (parities (suc k) w) i ≡ check_parity i w) e (cat_top (check_parity k w) k (parities k w) (parity_lt k w) (parities_lt k w))
  | inr ne ↦ let lt : j < k = omega arith in bit_at_cat_low (check_parity k w) k (parities k w) j lt ∙ bit_at-parities k j w lt
]

check_parity_is : (n j w : ℕ) → n ≤ 128 → w < 2 ^ n → check_parity j w ≡ ones_where (with_bit j) n w % 2
unfolding check_parity
check_parity_is n j w le h = ap (λ x. x % 2) (ones_where-wider (with_bit j) n 128 w le h)

pub parity_is : (n w : ℕ) → n ≤ 128 → w < 2 ^ n → parity w ≡ ones n w % 2
unfolding parity
parity_is n w le h = ap (λ x. x % 2) (ones_where-wider anywhere n 128 w le h)

pub parities_are : (n k w : ℕ) → n ≤ 128 → w < 2 ^ n → n ≤ 2 ^ k → parities k w ≡ syndrome n w
parities_are n k w le h fits =
    same_from_bits_below k (parities k w) (syndrome n w) (parities_lt k w) (syndrome-lt n w k fits)
    (λ j g. bit_at-parities k j w g ∙ check_parity_is n j w le h ∙ sym (bit_at-syndrome n w j))
