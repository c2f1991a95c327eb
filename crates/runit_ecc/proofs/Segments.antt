-- The positions between two check positions hold successive bits of the value.
use Rattle.std.proofs.Common.{◌≡◌, ℕ, zero, suc, ◌+◌, ◌-◌, ◌*◌, ◌/◌, ◌%◌, ◌^◌, ◌<◌, ◌≤◌, ◌≢◌, Bool, true, false, sym, ◌∙◌, ap, refl, arith, bit_and, pow_pos}
use Rattle.std.proofs.Math.Pow.{pow_mono}
use Rattle.std.proofs.Math.Nat.{mod_self}
use Rattle.std.specs.Int.{bit_at}
use Rattle.std.proofs.lemmas.Nat.{and_mask, mod-pow-add, shr-shr, pow-add, div-mul-add}
use Rattle.std.proofs.lemmas.Nat.Bits.{bit_at_and, bit_at-zero, bit_at_above}
use Rattle.std.proofs.lemmas.Bool.Decides.{nat_tests}
use Rattle.run_model.specs.Code.{places, value_of, is_check, placed}
use Rattle.runit_ecc.proofs.Values.{value_lt, placed_lt}

-- ---- check positions
pub check_pow : (j : ℕ) → is_check (2 ^ j) ≡ true
check_pow j = rw (and_mask (2 ^ j) j, mod_self (2 ^ j)) refl

top_of : (j q : ℕ) → 2 ^ j ≤ q → q < 2 ^ (j + 1) → bit_at q j ≡ 1
top_of j q low high =
    let e = pow-add 2 j 1 in
    let d : (1 * 2 ^ j + (q - 2 ^ j)) / 2 ^ j ≡ 1 = div-mul-add 1 (2 ^ j) (q - 2 ^ j) (omega arith) in
    let s : 1 * 2 ^ j + (q - 2 ^ j) ≡ q = omega arith in
    let t : q / 2 ^ j ≡ 1 = ap (λ x. x / 2 ^ j) (sym s) ∙ d in
    ap (λ x. x % 2) t

pub free_between : (j p : ℕ) → 2 ^ j < p → p < 2 ^ (j + 1) → is_check p ≡ false
free_between j p low high =
    let one : bit_at p j ≡ 1 = top_of j p (omega arith) high in
    let two : bit_at (p - 1) j ≡ 1 = top_of j (p - 1) (omega arith) (omega arith) in
    let both : bit_at (bit_and p (p - 1)) j ≡ 1 = let m = bit_at_and p (p - 1) j in omega arith in
    let ne : bit_and p (p - 1) ≢ 0 = λ z. let b : bit_at (bit_and p (p - 1)) j ≡ 0 = ap (λ x. bit_at x j) z ∙ bit_at-zero j in omega arith in
    grind (arith, nat_tests)

places_check : (n : ℕ) → is_check n ≡ true → places (suc n) ≡ places n
places_check n e = rw e refl

places_free : (n : ℕ) → is_check n ≡ false → places (suc n) ≡ places n + 1
places_free n e = rw e refl

value_check : (n w : ℕ) → is_check n ≡ true → value_of (suc n) w ≡ value_of n w
value_check n w e = rw e refl

value_free : (n w : ℕ) → is_check n ≡ false → value_of (suc n) w ≡ bit_at w n * 2 ^ places n + value_of n w
value_free n w e = rw e refl

placed_check : (n v : ℕ) → is_check n ≡ true → placed (suc n) v ≡ placed n v
placed_check n v e = rw e refl

placed_free : (n v : ℕ) → is_check n ≡ false → placed (suc n) v ≡ bit_at v (places n) * 2 ^ n + placed n v
placed_free n v e = rw e refl

-- ---- a run of positions that are no checks
places_run : (a k : ℕ) → ((i : ℕ) → i < k → is_check (a + i) ≡ false) → places (a + k) ≡ places a + k
places_run a zero free = let e : a + zero ≡ a = omega arith in ap places e ∙ omega arith
places_run a (suc k) free =
    let e : a + suc k ≡ suc (a + k) = omega arith in
    let r = places_run a k (λ i h. free i (omega arith)) in
    let s = places_free (a + k) (free k (omega arith)) in
    ap places e ∙ omega arith

pub low_digits : (v k : ℕ) → v % 2 ^ (k + 1) ≡ bit_at v k * 2 ^ k + v % 2 ^ k
low_digits v k = let e : k + 1 ≡ 1 + k = omega arith in ap (λ i. v % 2 ^ i) e ∙ mod-pow-add v 1 k

-- one more bit of a segment that begins at bit a and is placed at bit m
segment_step : (w a k m : ℕ) → w / 2 ^ a % 2 ^ (k + 1) * 2 ^ m ≡ bit_at w (a + k) * 2 ^ (m + k) + w / 2 ^ a % 2 ^ k * 2 ^ m
segment_step w a k m =
    let bit : bit_at (w / 2 ^ a) k ≡ bit_at w (a + k) = ap (λ x. x % 2) (shr-shr w a k) in
    let low = low_digits (w / 2 ^ a) k in
    let p = pow-add 2 m k in
    let q : w / 2 ^ a % 2 ^ (k + 1) ≡ bit_at w (a + k) * 2 ^ k + w / 2 ^ a % 2 ^ k = low ∙ ap (λ x. x * 2 ^ k + w / 2 ^ a % 2 ^ k) bit in
    let r : w / 2 ^ a % 2 ^ (k + 1) * 2 ^ m ≡ (bit_at w (a + k) * 2 ^ k + w / 2 ^ a % 2 ^ k) * 2 ^ m = ap (λ x. x * 2 ^ m) q in
    let s : bit_at w (a + k) * 2 ^ (m + k) ≡ bit_at w (a + k) * (2 ^ m * 2 ^ k) = ap (λ x. bit_at w (a + k) * x) p in
    omega arith

value_run : (a k w : ℕ) → ((i : ℕ) → i < k → is_check (a + i) ≡ false) → value_of (a + k) w ≡ w / 2 ^ a % 2 ^ k * 2 ^ places a + value_of a w
value_run a zero w free =
    let e : a + zero ≡ a = omega arith in
    let z : w / 2 ^ a % 1 ≡ 0 = omega arith in
    let y : w / 2 ^ a % 1 * 2 ^ places a ≡ 0 * 2 ^ places a = ap (λ x. x * 2 ^ places a) z in
    ap (λ n. value_of n w) e ∙ omega arith
value_run a (suc k) w free =
    let e : a + suc k ≡ suc (a + k) = omega arith in
    let r = value_run a k w (λ i h. free i (omega arith)) in
    let p = places_run a k (λ i h. free i (omega arith)) in
    let f = value_free (a + k) w (free k (omega arith)) in
    let g : bit_at w (a + k) * 2 ^ places (a + k) ≡ bit_at w (a + k) * 2 ^ (places a + k) = ap (λ x. bit_at w (a + k) * 2 ^ x) p in
    let s = segment_step w a k (places a) in
    let t : k + 1 ≡ suc k = omega arith in
    let u : w / 2 ^ a % 2 ^ (k + 1) * 2 ^ places a ≡ w / 2 ^ a % 2 ^ suc k * 2 ^ places a = ap (λ x. w / 2 ^ a % 2 ^ x * 2 ^ places a) t in
    ap (λ n. value_of n w) e ∙ omega arith

placed_run : (a k v : ℕ) → ((i : ℕ) → i < k → is_check (a + i) ≡ false) → placed (a + k) v ≡ v / 2 ^ places a % 2 ^ k * 2 ^ a + placed a v
placed_run a zero v free =
    let e : a + zero ≡ a = omega arith in
    let z : v / 2 ^ places a % 1 ≡ 0 = omega arith in
    let y : v / 2 ^ places a % 1 * 2 ^ a ≡ 0 * 2 ^ a = ap (λ x. x * 2 ^ a) z in
    ap (λ n. placed n v) e ∙ omega arith
placed_run a (suc k) v free =
    let e : a + suc k ≡ suc (a + k) = omega arith in
    let r = placed_run a k v (λ i h. free i (omega arith)) in
    let p = places_run a k (λ i h. free i (omega arith)) in
    let f = placed_free (a + k) v (free k (omega arith)) in
    let g : bit_at v (places (a + k)) * 2 ^ (a + k) ≡ bit_at v (places a + k) * 2 ^ (a + k) = ap (λ x. bit_at v x * 2 ^ (a + k)) p in
    let s = segment_step v (places a) k a in
    let t : k + 1 ≡ suc k = omega arith in
    let u : v / 2 ^ places a % 2 ^ (k + 1) * 2 ^ a ≡ v / 2 ^ places a % 2 ^ suc k * 2 ^ a = ap (λ x. v / 2 ^ places a % 2 ^ x * 2 ^ a) t in
    ap (λ n. placed n v) e ∙ omega arith

-- ---- from one check position to the next
double_pow : (j : ℕ) → 2 ^ (j + 1) ≡ 2 * 2 ^ j
double_pow j = let e = pow-add 2 j 1 in omega arith

free_after : (j i : ℕ) → i < 2 ^ j - 1 → is_check (2 ^ j + 1 + i) ≡ false
free_after j i h = let d = double_pow j in let p = pow_pos j in free_between j (2 ^ j + 1 + i) (omega arith) (omega arith)

next_place : (j : ℕ) → 2 ^ j + 1 + (2 ^ j - 1) ≡ 2 ^ (j + 1)
next_place j = let d = double_pow j in let p = pow_pos j in omega arith

after_check : (j : ℕ) → 2 ^ j + 1 ≡ suc (2 ^ j)
after_check j = omega arith

pub places_after : (j : ℕ) → places (2 ^ j + 1) ≡ places (2 ^ j)
places_after j = ap places (after_check j) ∙ places_check (2 ^ j) (check_pow j)

pub places_pow : (j : ℕ) → places (2 ^ j) + j + 1 ≡ 2 ^ j
places_pow zero = refl
places_pow (suc j) =
    let r = places_pow j in
    let a = places_after j in
    let s = places_run (2 ^ j + 1) (2 ^ j - 1) (free_after j) in
    let n : places (2 ^ j + 1 + (2 ^ j - 1)) ≡ places (2 ^ (j + 1)) = ap places (next_place j) in
    let t : j + 1 ≡ suc j = omega arith in
    let u : places (2 ^ (j + 1)) ≡ places (2 ^ suc j) = ap (λ k. places (2 ^ k)) t in
    let v : 2 ^ (j + 1) ≡ 2 ^ suc j = ap (λ k. 2 ^ k) t in
    let d = double_pow j in
    let p = pow_pos j in
    omega arith

pub value_next : (j w : ℕ) → value_of (2 ^ (j + 1)) w ≡ w / 2 ^ (2 ^ j + 1) % 2 ^ (2 ^ j - 1) * 2 ^ places (2 ^ j) + value_of (2 ^ j) w
value_next j w =
    let a : value_of (2 ^ j + 1) w ≡ value_of (2 ^ j) w = ap (λ n. value_of n w) (after_check j) ∙ value_check (2 ^ j) w (check_pow j) in
    let r = value_run (2 ^ j + 1) (2 ^ j - 1) w (free_after j) in
    ap (λ n. value_of n w) (sym (next_place j)) ∙ r ∙ ap (λ n. w / 2 ^ (2 ^ j + 1) % 2 ^ (2 ^ j - 1) * 2 ^ n + value_of (2 ^ j + 1) w) (places_after j) ∙ ap (λ x. w / 2 ^ (2 ^ j + 1) % 2 ^ (2 ^ j - 1) * 2 ^ places (2 ^ j) + x) a

pub placed_next : (j v : ℕ) → placed (2 ^ (j + 1)) v ≡ v / 2 ^ places (2 ^ j) % 2 ^ (2 ^ j - 1) * 2 ^ (2 ^ j + 1) + placed (2 ^ j) v
placed_next j v =
    let a : placed (2 ^ j + 1) v ≡ placed (2 ^ j) v = ap (λ n. placed n v) (after_check j) ∙ placed_check (2 ^ j) v (check_pow j) in
    let r = placed_run (2 ^ j + 1) (2 ^ j - 1) v (free_after j) in
    ap (λ n. placed n v) (sym (next_place j)) ∙ r ∙ ap (λ n. v / 2 ^ n % 2 ^ (2 ^ j - 1) * 2 ^ (2 ^ j + 1) + placed (2 ^ j + 1) v) (places_after j) ∙ ap (λ x. v / 2 ^ places (2 ^ j) % 2 ^ (2 ^ j - 1) * 2 ^ (2 ^ j + 1) + x) a

-- ---- past the last position that holds a one
value_above_step : (n w : ℕ) (b : Bool) → is_check n ≡ b → bit_at w n ≡ 0 → value_of (suc n) w ≡ value_of n w
value_above_step n w true e z = value_check n w e
value_above_step n w false e z = value_free n w e ∙ ap (λ x. x * 2 ^ places n + value_of n w) z ∙ omega arith

value_above : (n k w : ℕ) → w < 2 ^ n → value_of (k + n) w ≡ value_of n w
value_above n zero w h = let e : zero + n ≡ n = omega arith in ap (λ m. value_of m w) e
value_above n (suc k) w h =
    let e : suc k + n ≡ suc (k + n) = omega arith in
    ap (λ m. value_of m w) e ∙ value_above_step (k + n) w (is_check (k + n)) refl (bit_at_above w n (k + n) h (omega arith)) ∙ value_above n k w h

pub value_wider : (n m w : ℕ) → n ≤ m → w < 2 ^ n → value_of m w ≡ value_of n w
value_wider n m w le h = let e : m ≡ (m - n) + n = omega arith in ap (λ k. value_of k w) e ∙ value_above n (m - n) w h

places_grow : (n : ℕ) (b : Bool) → is_check n ≡ b → places n ≤ places (suc n)
places_grow n true e = let q = places_check n e in omega arith
places_grow n false e = let q = places_free n e in omega arith

places_up : (n k : ℕ) → places n ≤ places (k + n)
places_up n zero = let e : zero + n ≡ n = omega arith in let q = ap places e in omega arith
places_up n (suc k) =
    let e : suc k + n ≡ suc (k + n) = omega arith in
    let q = ap places e in
    let r = places_up n k in
    let s = places_grow (k + n) (is_check (k + n)) refl in
    omega arith

placed_above_step : (n v : ℕ) (b : Bool) → is_check n ≡ b → bit_at v (places n) ≡ 0 → placed (suc n) v ≡ placed n v
placed_above_step n v true e z = placed_check n v e
placed_above_step n v false e z = placed_free n v e ∙ ap (λ x. x * 2 ^ n + placed n v) z ∙ omega arith

placed_above : (n k v : ℕ) → v < 2 ^ places n → placed (k + n) v ≡ placed n v
placed_above n zero v h = let e : zero + n ≡ n = omega arith in ap (λ m. placed m v) e
placed_above n (suc k) v h =
    let e : suc k + n ≡ suc (k + n) = omega arith in
    ap (λ m. placed m v) e ∙ placed_above_step (k + n) v (is_check (k + n)) refl (bit_at_above v (places n) (places (k + n)) h (places_up n k)) ∙ placed_above n k v h

pub placed_wider : (n m v : ℕ) → n ≤ m → v < 2 ^ places n → placed m v ≡ placed n v
placed_wider n m v le h = let e : m ≡ (m - n) + n = omega arith in ap (λ k. placed k v) e ∙ placed_above n (m - n) v h

-- ---- room in 128 bits
pow_room : (j : ℕ) → j < 7 → 2 ^ (j + 1) ≤ 128
pow_room j h = let le : j + 1 ≤ 7 = omega arith in let m : 2 ^ (j + 1) ≤ 2 ^ 7 = pow_mono le in omega arith

pub value_room : (j w : ℕ) → j < 7 → value_of (2 ^ (j + 1)) w < 2 ^ 128
value_room j w h =
    let p = places_pow (j + 1) in
    let r = pow_room j h in
    let le : places (2 ^ (j + 1)) ≤ 128 = omega arith in
    let m : 2 ^ places (2 ^ (j + 1)) ≤ 2 ^ 128 = pow_mono le in
    let l = value_lt (2 ^ (j + 1)) w in
    omega arith

pub placed_room : (j v : ℕ) → j < 7 → placed (2 ^ (j + 1)) v < 2 ^ 128
placed_room j v h =
    let r = pow_room j h in
    let m : 2 ^ (2 ^ (j + 1)) ≤ 2 ^ 128 = pow_mono r in
    let l = placed_lt (2 ^ (j + 1)) v in
    omega arith
