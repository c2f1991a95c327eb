-- The product of a field with enough zero bytes at its left.
use Rattle.std.proofs.Common.{◌≡◌, ℕ, zero, suc, ◌+◌, ◌-◌, ◌*◌, ◌/◌, ◌%◌, ◌^◌, ◌<◌, ◌≤◌, Bool, true, false, ◌&&◌, eqb, leb, ltb, List, [], ◌∷◌, length, take, drop, length-take, length-drop, refl, ap, arith}
use Rattle.std.specs.List.{list_all}
use Rattle.std.proofs.lemmas.Bool.Decides.{nat_tests}
use Rattle.std.proofs.lemmas.Nat.{mul-add-lt, pow-add}
use Rattle.std.proofs.Math.Nat.{pow-suc, pow-le-pow_right, mul-le-mul_left}
use Rattle.esa_model.specs.Packed.{pair, is_pair, all_pairs, body, front, last, is_packed, magnitude_of}
use Rattle.esa_model.specs.DecimalRows.{bad_lengths, has_room}

both : (a b : Bool) → (a && b) ≡ true → (a ≡ true) × (b ≡ true)
both true b h = (refl, h)
both false b h = absurd (cc h)

pair_lt : (b : ℕ) → is_pair b ≡ true → pair b < 100
pair_lt b h = grind (arith, nat_tests)

body_lt : (bs : List ℕ) → all_pairs bs ≡ true → body bs < 100 ^ length bs
body_lt [] h = omega arith
body_lt (b ∷ bs) h =
    let s = both (is_pair b) (all_pairs bs) h in
    let r = body_lt bs s.1 in
    let p = pair_lt b s.0 in
    let m = mul-add-lt (pair b) (100 ^ length bs) (body bs) 100 p r in
    let e : 100 ^ (suc (length bs)) ≡ 100 ^ length bs * 100 = pow-suc 100 (length bs) in
    rw e (omega arith)

pairs_drop : (bs : List ℕ) (n : ℕ) → all_pairs bs ≡ true → all_pairs (drop n bs) ≡ true
pairs_drop bs zero h = h
pairs_drop [] (suc n) h = refl
pairs_drop (b ∷ bs) (suc n) h = pairs_drop bs n (both (is_pair b) (all_pairs bs) h).1

abbrev zeros : List ℕ → Bool
zeros bs = list_all (λ b. eqb b 0) bs

zero_is : (b : ℕ) → eqb b 0 ≡ true → b ≡ 0
zero_is b h = grind (arith, nat_tests)

body_room : (bs : List ℕ) (m n : ℕ) → n ≤ m → zeros (take n bs) ≡ true
    → body (take m bs) ≡ body (drop n (take m bs))
body_room bs m zero le h = refl
body_room [] zero (suc n) le h = refl
body_room [] (suc m) (suc n) le h = refl
body_room (b ∷ bs) zero (suc n) le h = absurd (omega arith)
body_room (b ∷ bs) (suc m) (suc n) le h =
    let s = both (eqb b 0) (zeros (take n bs)) h in
    let z = zero_is b s.0 in
    let r = body_room bs m n (omega arith) s.1 in
    let p : pair b ≡ 0 = omega arith in
    let q : pair b * 100 ^ length (take m bs) ≡ 0 * 100 ^ length (take m bs) =
    ap (λ x. x * 100 ^ length (take m bs)) p in
    omega arith

magnitude_lt : (f : List ℕ) (n c : ℕ) → n + 1 ≤ length f → c ≡ length f - 1 - n
    → zeros (take n f) ≡ true → is_packed f ≡ true → magnitude_of f < 100 ^ c * 10
magnitude_lt f n c few is room packed =
    let s = both (all_pairs (front f)) (ltb (last f / 16) 10 && leb 10 (last f % 16)) packed in
    let t = both (ltb (last f / 16) 10) (leb 10 (last f % 16)) s.1 in
    let digit : last f / 16 < 10 = grind (arith, nat_tests) in
    let same = body_room f (length f - 1) n (omega arith) room in
    let lt = body_lt (drop n (front f)) (pairs_drop (front f) n s.0) in
    let len : length (drop n (front f)) ≡ c = simp (length-drop, length-take) (omega arith) in
    let bound : 100 ^ length (drop n (front f)) ≡ 100 ^ c = ap (λ i. 100 ^ i) len in
    omega arith

mul_lt : (x y a b : ℕ) → x < a → y < b → x * y < a * b
mul_lt x y a b h g =
    let h1 : x + 1 ≤ a = omega arith in
    let g1 : y ≤ b = omega arith in
    let l = mul-le-mul_left b h1 in
    let r = mul-le-mul_left x g1 in
    omega arith

pub product_small : (f s : List ℕ) → length f ≤ 16 → 1 ≤ length s → bad_lengths f s ≡ false
    → has_room f s ≡ true → is_packed f ≡ true → is_packed s ≡ true
    → magnitude_of f * magnitude_of s < 10 ^ 31
product_small f s few some lengths room fp sp =
    let shorter : length s < length f = grind (arith, nat_tests) in
    let c : ℕ = length f - 1 - length s in
    let d : ℕ = length s - 1 in
    let ml = magnitude_lt f (length s) c (omega arith) refl room fp in
    let sl = magnitude_lt s 0 d (omega arith) (omega arith) refl sp in
    let m = mul_lt (magnitude_of f) (magnitude_of s) (100 ^ c * 10) (100 ^ d * 10) ml sl in
    let e : c + d ≤ 14 = omega arith in
    let p : 0 < 100 = omega arith in
    let le : 100 ^ (c + d) ≤ 100 ^ 14 = pow-le-pow_right p e in
    let a : 100 ^ (c + d) ≡ 100 ^ c * 100 ^ d = pow-add 100 c d in
    omega arith
